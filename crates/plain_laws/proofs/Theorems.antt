-- Document 02, request 6: the plain engine "agrees with the record after every such list, refused events included". Assumes nothing.
use Prim.Native.Nat.{ℕ, zero, suc, ◌+◌, ◌-◌, ◌≤◌}
use mathlib.Core.Path.{◌≡◌, refl, sym, ◌∙◌, ap}
use mathlib.Core.Bool.{not}
use mathlib.Core.List.{List}
use native.Mathlib.Omega.{arith}
use lib.Dec.{eqb, leb}
use lib.ListN.{length}
use Rattle.std.specs.Prelude.{Ok, Err}
use borrow.Author.Tests.{leb-true, leb-false, le-leb}
use Rattle.choice.specs.Pick.{◌and◌}
use Rattle.choice.specs.Pick.{pick}
use Rattle.choice.proofs.Picks.{yes, no}
use Rattle.choice.proofs.Tests.{test, join, no_left, never}
use Rattle.areas.specs.Areas.{area_size}
use Rattle.record.specs.Given.{opening}
use Rattle.record.specs.declared.Opening.{Opening}
use Rattle.record.specs.declared.Record.{Record}
use Rattle.answers.specs.declared.Refusal.{Refusal}
use Rattle.log_layout.specs.Log.{count, input_sized, input_sound, input_width, room_by}
use Rattle.calls.specs.Calls.{Call, step}
use Rattle.calls.specs.Calls.Call.{commit, recover_retained}
use Rattle.input_events.specs.declared.Fault.TheVariants.{BadEvent, Refused}
use Rattle.input_events.specs.Events.{event_at, bad}
use Rattle.input_events.specs.Meaning.{meant}
use Rattle.demand_steps.specs.Typed.{Typed}
use Rattle.demand_steps.specs.Knowing.{Watch, unwatched}
use Rattle.demand_steps.specs.Watching.{watch}
use Rattle.demand_chains.specs.Chains.{after, heard}
use Rattle.demand_chains.proofs.Theorems.{good_opening}
use Rattle.replays.specs.Replaying.{Standing, standing, run, sizes_fit, replayed}
use Rattle.replays.proofs.Turns as Turns
use Rattle.replay_laws.proofs.Portions.{is_unfit, is_unsound, is_run}
use Rattle.plain.specs.declared.Taken.{Taken}
use Rattle.plain.specs.declared.Question.{Question}
use Rattle.plain.specs.declared.Question.TheVariants.{Phase, CommitAllowed, RecoveryAllowed, DueAsking, Revision}
use Rattle.plain.specs.Plain.{answer_to}
use Rattle.plain.specs.Taking.{opened}
use Rattle.plain.specs.Looking.{looks, finding, asked}
use Rattle.plain_laws.specs.Known.{known_by, heard_by, Ordered}
use Rattle.plain_laws.specs.Agreement.{due_of, says, takes_all, ended, replay_finds}
use Rattle.plain_laws.proofs.Knowing.{Agrees}
use Rattle.plain_laws.proofs.Allowing.{ordered}
use Rattle.plain_laws.proofs.Chains.{agrees_on, agrees_after}
use Rattle.plain_laws.proofs.Answers.{answers_same}

-- from an opening that is not refused; revision and count are u64s
module _ (given : Opening) (n : ℕ) (m : Typed given) (h : n ≤ area_size) where
  at_first : Agrees (opened given) unwatched (opening given n)
  unfolding opened unwatched opening
  at_first = record {
    good = good_opening given n m h;
    same = refl;
    holds = record { counts = (refl, refl); serial = refl; live = refl; closed = λ s v z. never (sym s) };
  }

  -- the engine, which hears no answers, knows what the watcher knows, who hears them: after every list of calls
  pub engine_knows : (cs : List Call) → known_by (takes_all (opened given) cs) ≡ heard_by (watch unwatched (heard (opening given n) cs))
  engine_knows cs = (agrees_after cs at_first).same

  pub reports_in_order : (cs : List Call) → Ordered (takes_all (opened given) cs) (watch unwatched (heard (opening given n) cs))
  reports_in_order cs = ordered (agrees_after cs at_first)

  -- and it answers each question as the record does
  pub calls_agree : (q : Question) (cs : List Call) → answer_to q (takes_all (opened given) cs) ≡ says q (after (opening given n) cs)
  calls_agree q cs = answers_same (agrees_after cs at_first) q

-- the events of a log, one after the other, as replay runs them
module _ (q : Question) (l : List ℕ) where
  goes_along : (n at ran : ℕ) (a : List ℕ) {t : Taken} {w : Watch} {r : Record} → Agrees t w r → finding q (looks n l at t) ≡ replay_finds q (run n l (standing r at ran (Ok tt) a))
  unfolding looks
  goes_along zero at ran a x = ap Ok (answers_same x q)
  goes_along (suc n) at ran a {t} {w} {r} x =
      let s = standing r at ran (Ok tt) a in
      let e = event_at l at in
      test (leb (count l) at)
      (λ b. ap (finding q) (sym (yes _ b refl)) ∙ ap Ok (answers_same x q) ∙ ap (replay_finds q) (sym (Turns.ended (suc n) l s refl (leb-true _ _ b))))
      (λ b. let there = leb-false (count l) at b in
      test (bad e)
      (λ d. ap (finding q) (sym (no _ b (yes _ d refl))) ∙ ap (replay_finds q) (Turns.at_bad (suc n) l r at ran a (omega arith) there d))
      (λ d. ap (finding q) (sym (no _ b (no _ d refl))) ∙ goes_along n (at + 1) (ran + 1) _ (agrees_on x (meant e))
      ∙ ap (λ (z : Standing). replay_finds q (run n l z)) (Turns.answered l r at ran a {t = step r (meant e)} there d refl refl)))

-- after the first events of any input log: what is found is what a replay of them comes to, as it ends or is refused
module _ (given : Opening) (n : ℕ) (m : Typed given) (h : n ≤ area_size) (l a : List ℕ) (k : room_by input_width (length l) ≤ length a) (events : ℕ) where
  abbrev now : Standing
  now = replayed l 0 (opening given n) a events

  pub engine_agrees : (q : Question) → asked q given l events ≡ replay_finds q now
  unfolding asked sizes_fit
  engine_agrees q =
      let r = opening given n in
      test (input_sized (length l))
      (λ z. let fits = join z (le-leb _ _ k) in
      test (input_sound l)
      (λ s. sym (no _ (ap not z) (no _ (ap not s) refl)) ∙ goes_along q l events 0 0 a (at_first given n m h) ∙ ap (replay_finds q) (sym (is_run l 0 r a events fits s)))
      (λ s. sym (no _ (ap not z) (yes _ (ap not s) refl)) ∙ ap (replay_finds q) (sym (is_unsound l 0 r a events fits s))))
      (λ z. sym (yes _ (ap not z) refl) ∙ ap (replay_finds q) (sym (is_unfit l 0 r a events (no_left _ z))))

  -- "refused as replay refuses it"
  pub bad_agrees : (q : Question) (number : ℕ) → now.ending ≡ Err (BadEvent number) → asked q given l events ≡ Err (BadEvent number)
  bad_agrees q number e = engine_agrees q ∙ ap (ended q now.state) e

  pub refusal_agrees : (q : Question) (why : Refusal) → now.ending ≡ Err (Refused why) → asked q given l events ≡ Err (Refused why)
  refusal_agrees q why e = engine_agrees q ∙ ap (ended q now.state) e

  -- and where the events are run, question by question
  module _ (e : now.ending ≡ Ok tt) where
    pub phase-agrees : asked Phase given l events ≡ Ok now.state.phase.number
    unfolding says
    phase-agrees = engine_agrees Phase ∙ ap (ended Phase now.state) e

    pub commit-agrees : asked CommitAllowed given l events ≡ Ok (pick (eqb (step now.state commit).number 0) 1 0)
    unfolding says
    commit-agrees = engine_agrees CommitAllowed ∙ ap (ended CommitAllowed now.state) e

    pub recovery-agrees : asked RecoveryAllowed given l events ≡ Ok (pick (eqb (step now.state recover_retained).number 0) 1 0)
    unfolding says
    recovery-agrees = engine_agrees RecoveryAllowed ∙ ap (ended RecoveryAllowed now.state) e

    pub asking-agrees : asked DueAsking given l events ≡ Ok (due_of now.state)
    unfolding says
    asking-agrees = engine_agrees DueAsking ∙ ap (ended DueAsking now.state) e

    pub revision-agrees : asked Revision given l events ≡ Ok now.state.revision
    unfolding says
    revision-agrees = engine_agrees Revision ∙ ap (ended Revision now.state) e
