-- Document 02, request 4: the promise determines what a replay gives, replaying recorded calls is their chain, and the recorder's log has the
-- replayed numbers. What holds of every replay stands in Portions.antt, Gives.antt and Every.antt. Assumes nothing.
use Prim.Native.Nat.{ℕ, zero, suc, ◌+◌, ◌≤◌}
use mathlib.Core.Path.{◌≡◌, refl, sym, ap, ◌∙◌}
use mathlib.Core.Bool.{true}
use mathlib.Core.List.{List, [], ◌∷◌, ◌++◌, map, append-nil}
use lib.ListN.{length, take, drop, length-append}
use lib.Seq.{sets, sets-eq, take_at}
use native.Mathlib.Nat.{zero-add}
use native.Mathlib.Omega.{arith}
use borrow.Author.Tests.{le-leb}
use Rattle.choice.proofs.Tests.{join}
use Rattle.record.specs.declared.Record.{Record}
use Rattle.log_layout.specs.Log.{log_sized, sound, count, input_width, room_by, input_sound}
use Rattle.log_layout.specs.Log as Log
use Rattle.events.specs.Entries.{Entry, entries}
use Rattle.calls.specs.Calls.{Call}
use Rattle.demand_steps.specs.Knowing.{Heard}
use Rattle.demand_chains.specs.Chains.{after, heard}
use Rattle.demand_logs.specs.Logged.{logged, events}
use Rattle.demand_logs.proofs.LoggedChains.{same_chain}
use Rattle.replays.specs.declared.Replayed.{Replayed}
use Rattle.std.specs.Prelude.{Ok}
use Rattle.replays.specs.Replaying.{Standing, standing, stands, given_back, start, sizes_fit, replayed}
use Rattle.replay_laws.specs.Recording.{Kept, Holds, input_of}
use Rattle.replay_laws.specs.Recording.Holds.{none, more}
use Rattle.replay_laws.specs.Entering.{numbers, entries_of}
use Rattle.replay_laws.proofs.Portions.{is_run}
use Rattle.replay_laws.proofs.Chain.{run_chain}
use Rattle.replay_laws.proofs.Entering.{same_entries}
use Rattle.replay_laws.proofs.Written.{input_length, input_sized_lem, input_sound_lem, input_holds}

-- the promise determines what a replay gives back and the answers that it leaves
pub one_replay : (s : Standing) (d e : Replayed) (a b : List ℕ) → stands d a ≡ s → stands e b ≡ s → (d ≡ e) × (a ≡ b)
one_replay s d e a b p q =
    let same = p ∙ sym q in
    (ap (λ (x : Standing). given_back x.state x.position x.ran x.ending) same, ap (λ (x : Standing). x.answers) same)

-- the beginning of a chain is held with it
front : (l : List ℕ) (ds es : List Call) (at : ℕ) → Holds l at (ds ++ es) → Holds l at ds
front l [] es at h = none
front l (d ∷ ds) es at (more h e k rest) = more h e k (front l ds es (at + 1) rest)

numbers_length : (cs : List Call) (r : Record) → length (numbers r cs) ≡ length cs
unfolding heard
numbers_length [] r = refl
numbers_length (c ∷ cs) r = ap suc (numbers_length cs _)

module _ (room : ℕ) (cs : List Call) (rest a : List ℕ) (k : Kept room cs rest) (h : room ≤ length a) where
  abbrev l : List ℕ
  l = input_of room cs rest

  lent : sizes_fit (length l) (length a) ≡ true
  unfolding sizes_fit
  lent =
      let e = input_length room cs rest k.enough k.filled in
      join (input_sized_lem room cs rest k.least k.most e) (le-leb (room_by input_width (length l)) (length a) (omega (arith, e, h)))

  headed : input_sound l ≡ true
  headed = input_sound_lem room cs rest k.least k.enough (input_length room cs rest k.enough k.filled)

-- the record after each event, and the answers so far at the front of the lent answers: of every beginning of every chain of recorded
-- calls, from any record, that of an opening too
pub replay_is_the_chain : (r : Record) (ds es : List Call) (room : ℕ) (rest a : List ℕ) → Kept room (ds ++ es) rest → room ≤ length a
    → replayed (input_of room (ds ++ es) rest) 0 r a (length ds)
    ≡ standing (after r ds) (length ds) (length ds) (Ok tt) (numbers r ds ++ drop (length ds) a)
replay_is_the_chain r ds es room rest a k h =
    let cs = ds ++ es in
    let l = input_of room cs rest in
    let n = length ds in
    let out = numbers r ds in
    let e = numbers_length ds r in
    let within : 0 + length out ≤ length a = omega (arith, e, h, k.enough, length-append ds es) in
    is_run l 0 r a n (lent room cs rest a k h) (headed room cs rest a k h)
    ∙ run_chain l ds r 0 0 a (front l ds es 0 (input_holds room cs rest k.recorded_all))
    ∙ ap (λ (i : ℕ). standing (after r ds) i i (Ok tt) (sets a 0 out)) (zero-add n)
    ∙ ap (standing (after r ds) n n (Ok tt)) (sets-eq out a 0 within ∙ ap (λ (i : ℕ). out ++ drop i a) (zero-add (length out) ∙ e))

-- a chain through the recorder that has room for its events, and a replay of its input log: the same record, the same answers, and the
-- recorder's new entries are those of the replayed events
pub record Agree (r : Record) (log : List ℕ) (cs : List Call) (l a : List ℕ) : Type 0 where
  pub same_record : (replayed l 0 r a (length cs)).state ≡ (logged r log cs).state
  pub same_answers : take (length cs) (replayed l 0 r a (length cs)).answers ≡ map (λ (h : Heard). h.answer.number) (logged r log cs).heard
  pub same_entries : entries (logged r log cs).log ≡ entries log ++ entries_of (length cs) l (start 0 r a)

pub recorder_agrees : (r : Record) (log : List ℕ) (cs : List Call) (room : ℕ) (rest a : List ℕ) → Kept room cs rest → room ≤ length a
    → log_sized (length log) ≡ true → sound log ≡ true → count log + length (events r cs) ≤ Log.room log → Agree r log cs (input_of room cs rest) a
recorder_agrees r log cs room rest a k h z s f =
    let l = input_of room cs rest in
    let same = same_chain cs r log z s f in
    let out = numbers r cs in
    let within : 0 + length cs ≤ length a = omega (arith, h, k.enough) in
    let k' : Kept room (cs ++ []) rest = rw (append-nil cs) k in
    let whole = ap (λ (ds : List Call). replayed (input_of room ds rest) 0 r a (length cs)) (sym (append-nil cs)) ∙ replay_is_the_chain r cs [] room rest a k' h in
    record {
      same_record = ap (λ (x : Standing). x.state) whole ∙ sym same.same_record;
      same_answers =
          ap (λ (x : Standing). take (length cs) x.answers) whole
          ∙ take_at out (drop (length cs) a) (length cs) (numbers_length cs r)
          ∙ ap (map (λ (x : Heard). x.answer.number)) (sym same.same_answers);
      same_entries =
          same.events_in_order
          ∙ ap (λ (es : List Entry). entries log ++ es) (sym (same_entries l cs r 0 0 a (input_holds room cs rest k.recorded_all) within));
    }
