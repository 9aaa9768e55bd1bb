-- Document 02, request 4: what a replay of any words, from any position and record, gives. Assumes nothing.
use Prim.Native.Nat.{ℕ, zero, suc, ◌+◌, ◌-◌, ◌≤◌, ◌<◌}
use mathlib.Core.Path.{◌≡◌, refl, sym, ap, ◌∙◌, subst}
use mathlib.Core.Bool.{Bool, true, false, not}
use mathlib.Core.List.{List}
use lib.Dec.{leb, ltb}
use lib.ListN.{length, get_or}
use lib.Seq.{sets}
use Rattle.std.specs.Prelude.{Ok, Err}
use native.Mathlib.Nat.{add-zero}
use native.Mathlib.Omega.{arith}
use borrow.Author.Tests.{leb-true, ltb-true, le-leb}
use Rattle.choice.specs.Pick.{◌or◌}
use Rattle.choice.proofs.Picks.{yes, no}
use Rattle.choice.proofs.Tests.{never, test, tests}
use Rattle.answers.specs.declared.Refusal.{Refusal}
use Rattle.answers.specs.declared.Refusal.TheVariants.{BadArea, Damaged}
use Rattle.record.specs.Fields.{top}
use Rattle.record.specs.declared.Record.{Record}
use Rattle.log_layout.specs.Log.{count, most_room, input_sound}
use Rattle.log_layout.proofs.Room.{input_head, input_size}
use Rattle.demand_chains.specs.Chains.{after, heard}
use Rattle.calls.specs.Calls.{step}
use Rattle.input_events.specs.Events.{event_at, bad}
use Rattle.input_events.specs.Meaning.{meant}
use Rattle.input_events.specs.declared.Fault.TheVariants.{BadEvent, Refused}
use Rattle.replays.specs.Replaying.{Ending, Standing, start, refused_at, goes_on, stopped, moved, next, run, sizes_fit, replayed, further}
use Rattle.replays.proofs.Turns.{held, ended, halted}
use Rattle.replay_laws.specs.Recording.{calls_from}
use Rattle.replay_laws.specs.Entering.{numbers}
use Rattle.replay_laws.proofs.Calls.{ran_calls, within_count}
use Rattle.replay_laws.proofs.Running.{run_length, run_position, stays_before, stays_behind, ran_good, run_most}
use Rattle.replay_laws.proofs.Portions.{Stood, stood, is_unfit, is_unsound, is_run}
use Rattle.replay_laws.proofs.Portions.Stood.{goes, stuck}

pub record Gives (l : List ℕ) (p : ℕ) (r : Record) (a : List ℕ) (n : ℕ) (d : Standing) : Type 0 where
  -- "It runs at most the number of events it is given and reports how many it ran"
  pub at_most : d.ran ≤ n
  pub onward : d.position ≡ p + d.ran
  -- fewer only behind the last event that the head counts, where it ended well
  pub all_run : d.ending ≡ Ok tt → d.ran < n → count l ≤ d.position
  -- exactly the answers of the events that ran are written
  pub same_length : length d.answers ≡ length a
  pub before : (i : ℕ) → i < p → get_or d.answers i 0 ≡ get_or a i 0
  pub behind : (i : ℕ) → p + d.ran ≤ i → get_or d.answers i 0 ≡ get_or a i 0
  -- "The first bad one is named by its number"
  pub good : (i : ℕ) → p ≤ i → i < p + d.ran → bad (event_at l i) ≡ false
  pub named : (k : ℕ) → d.ending ≡ Err (BadEvent k) → (k ≡ d.position) × (k < count l) × (bad (event_at l k) ≡ true)
  -- "Words past the count are not read": no event behind those that the head counts is run
  pub counted : 0 < d.ran → (d.position ≤ count l) × (count l ≤ most_room)
  -- "Replaying gives the record and .. every answer number": those of the calls that the events that ran mean
  pub record_after : d.state ≡ after r (calls_from l p d.ran)
  pub answered : d.answers ≡ sets a p (numbers r (calls_from l p d.ran))

abbrev is_bad : Ending → Bool
is_bad (Ok u) = false
is_bad (Err (BadEvent number)) = true
is_bad (Err (Refused why)) = false

abbrev bad_at : Ending → ℕ
bad_at (Ok u) = 0
bad_at (Err (BadEvent number)) = number
bad_at (Err (Refused why)) = 0

full : (n : ℕ) (l : List ℕ) (s : Standing) → s.ending ≡ Ok tt → (run n l s).ending ≡ Ok tt → (run n l s).ran < s.ran + n → count l ≤ (run n l s).position
unfolding next ◌or◌
full zero l s g e h = absurd (omega (arith, h))
full (suc n) l s g e h =
    let at = event_at l s.position in
    let t = step s.state (meant at) in
    let here : not (goes_on s.ending) or leb (count l) s.position ≡ leb (count l) s.position =
    ap (λ (x : Ending). not (goes_on x) or leb (count l) s.position) g in
    test (leb (count l) s.position)
    (λ b. rw (ended (suc n) l s g (leb-true _ _ b)) (leb-true _ _ b))
    (λ b. test (bad at)
    (λ f.
    let stops : run (suc n) l s ≡ stopped s = ap (run n l) (sym (no _ (here ∙ b) (yes _ f refl))) ∙ halted n l (stopped s) refl in
    never (ap goes_on (sym e ∙ ap (λ (x : Standing). x.ending) stops)))
    (λ f.
    let moves : next l s ≡ moved t s = sym (no _ (here ∙ b) (no _ f refl)) in
    subst (λ (x : Standing). (run n l x).ending ≡ Ok tt → (run n l x).ran < s.ran + suc n → count l ≤ (run n l x).position) (sym moves)
    (λ e h. full n l (moved t s) refl e (omega (arith, h))) e h))

refused_gives : (l : List ℕ) (p : ℕ) (r : Record) (a : List ℕ) (n : ℕ) (why : Refusal) → Gives l p r a n (refused_at why p r a)
unfolding after heard calls_from
refused_gives l p r a n why = record {
  at_most = omega arith;
  onward = sym (add-zero p);
  all_run = λ e h. never (sym (ap goes_on e));
  same_length = refl;
  before = λ i h. refl;
  behind = λ i h. refl;
  good = λ i h k. absurd (omega (arith, h, k));
  named = λ k e. never (sym (ap is_bad e));
  counted = λ h. absurd (omega (arith, h));
  record_after = refl;
  answered = refl;
}

names : (l : List ℕ) (d : Standing) → Stood l d → (k : ℕ) → d.ending ≡ Err (BadEvent k) → (k ≡ d.position) × (k < count l) × (bad (event_at l k) ≡ true)
names l d (goes f) k e = never (sym (ap is_bad (sym f ∙ e)))
names l d (stuck f h b) k e = let at = ap bad_at (sym e ∙ f) in (at, omega (arith, at, h), ap (λ (n : ℕ). bad (event_at l n)) at ∙ b)

run_gives : (l : List ℕ) (p : ℕ) (r : Record) (a : List ℕ) (n : ℕ) → sizes_fit (length l) (length a) ≡ true → input_sound l ≡ true
    → Gives l p r a n (run n l (start p r a))
run_gives l p r a n h sound =
    let s = start p r a in
    let d = run n l s in
    let g = ran_calls n l s in
    let all : d.ran ≡ g.steps = omega (arith, g.ran) in
    let head = input_head l sound in
    let on : d.position ≡ p + d.ran = omega (arith, run_position n l s) in
    record {
      at_most = omega (arith, run_most n l s);
      onward = on;
      all_run = λ e h. full n l s refl e (omega (arith, h));
      same_length = run_length n l s;
      before = stays_before n l s;
      behind = λ i h. stays_behind n l s i (omega (arith, h, on));
      good = λ i h k. ran_good n l s i h (omega (arith, k, on));
      named = λ k e. names l d (stood l n s refl) k e;
      counted = λ z. (within_count n l s (λ f. absurd (omega (arith, f))) z, omega (arith, head.exact, head.within, (input_size (length l) (held _ _ h).0).1));
      record_after = g.state ∙ ap (λ (k : ℕ). after r (calls_from l p k)) (sym all);
      answered = g.answers ∙ ap (λ (k : ℕ). sets a p (numbers r (calls_from l p k))) (sym all);
    }

-- by what a replay is: refused, or run
pub by_replay : (P : Standing → Type 0) (l : List ℕ) (p : ℕ) (r : Record) (a : List ℕ) (n : ℕ) → ((why : Refusal) → P (refused_at why p r a))
    → (sizes_fit (length l) (length a) ≡ true → input_sound l ≡ true → P (run n l (start p r a))) → P (replayed l p r a n)
by_replay P l p r a n refuses runs =
    test (sizes_fit (length l) (length a))
    (λ h. test (input_sound l) (λ s. subst P (sym (is_run l p r a n h s)) (runs h s)) (λ s. subst P (sym (is_unsound l p r a n h s)) (refuses Damaged)))
    (λ h. subst P (sym (is_unfit l p r a n h)) (refuses BadArea))

pub replay_gives : (l : List ℕ) (p : ℕ) (r : Record) (a : List ℕ) (n : ℕ) → Gives l p r a n (replayed l p r a n)
replay_gives l p r a n = by_replay (Gives l p r a n) l p r a n (refused_gives l p r a n) (run_gives l p r a n)

-- a reader that is moved on by the events that ran stands where the next portion begins
pub advanced : (l : List ℕ) (p : ℕ) (r : Record) (a : List ℕ) (n : ℕ) → p ≤ top → let d = replayed l p r a n in further p d.ran ≡ d.position
unfolding further
advanced l p r a n h =
    let d = replayed l p r a n in
    let g = replay_gives l p r a n in
    let fits : d.ran ≤ top - p = test (ltb 0 d.ran) (λ b. let c = g.counted (ltb-true _ _ b) in omega (arith, g.onward, c.0, c.1)) (λ b. omega tests) in
    sym (yes _ (le-leb _ _ fits) g.onward)
