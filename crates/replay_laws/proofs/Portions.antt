-- Document 02, request 4: "two portions equal one", bad events included. Assumes nothing.
use Prim.Native.Nat.{ℕ, zero, suc, ◌+◌, ◌<◌}
use mathlib.Core.Path.{◌≡◌, refl, sym, ap, ◌∙◌}
use mathlib.Core.Bool.{true, false, not}
use mathlib.Core.List.{List}
use lib.Dec.{leb}
use lib.ListN.{length, set}
use Rattle.std.specs.Prelude.{Ok, Err}
use native.Mathlib.Nat.{add-zero}
use native.Mathlib.Omega.{arith}
use Rattle.choice.specs.Pick.{◌or◌}
use Rattle.choice.proofs.Picks.{picked, yes, no}
use Rattle.choice.proofs.Tests.{test}
use Rattle.answers.specs.declared.Refusal.TheVariants.{BadArea, Damaged}
use Rattle.record.specs.declared.Record.{Record}
use Rattle.log_layout.specs.Log.{count, input_sound}
use Rattle.calls.specs.Calls.{step}
use Rattle.input_events.specs.Events.{event_at, bad}
use Rattle.input_events.specs.Meaning.{meant}
use Rattle.input_events.specs.declared.Fault.TheVariants.{BadEvent}
use Rattle.replays.specs.Replaying.{Ending, Standing, standing, start, refused_at, goes_on, next, run, sizes_fit, replayed}
use Rattle.replays.proofs.Turns.{halted, at_bad}
use Rattle.replay_laws.specs.Portions.{both_end, joined}
use Rattle.replay_laws.proofs.Running.{by_turn, kept, run_length, run_adds}

-- so many events more had been run before
abbrev later : ℕ → Standing → Standing
later k s = standing s.state s.position (k + s.ran) s.ending s.answers

-- two standings with the same count and ending, and all else equal
alike : (s : Standing) {ran : ℕ} {ending : Ending} → ran ≡ s.ran → ending ≡ s.ending
    → standing s.state s.position ran ending s.answers ≡ s
alike s {ran} {ending} e f =
    ap (λ (n : ℕ). standing s.state s.position n ending s.answers) e
    ∙ ap (λ (x : Ending). standing s.state s.position s.ran x s.answers) f

module _ (l : List ℕ) where
  later_next : (k : ℕ) (s : Standing) → next l (later k s) ≡ later k (next l s)
  unfolding next
  later_next k s =
      let e = event_at l s.position in
      let t = step s.state (meant e) in
      let one : k + s.ran + 1 ≡ k + (s.ran + 1) = omega arith in
      picked (λ (x : Standing). x ≡ later k (next l s)) (not (goes_on s.ending) or leb (count l) s.position) (λ a. ap (later k) (yes _ a refl)) (λ a.
      picked (λ (x : Standing). x ≡ later k (next l s)) (bad e) (λ b. ap (later k) (no _ a (yes _ b refl))) (λ b.
      ap (λ (n : ℕ). standing t.state (s.position + 1) n (Ok tt) (set s.answers s.position t.number)) one
      ∙ ap (later k) (no _ a (no _ b refl))))

  later_run : (n k : ℕ) (s : Standing) → run n l (later k s) ≡ later k (run n l s)
  later_run zero k s = refl
  later_run (suc n) k s = ap (run n l) (later_next k s) ∙ later_run n k (next l s)

  -- a portion has run what it was to run, or stands at a bad event
  pub data Stood (s : Standing) : Type 0 where
    goes : s.ending ≡ Ok tt → Stood s
    stuck : s.ending ≡ Err (BadEvent s.position) → s.position < count l → bad (event_at l s.position) ≡ true → Stood s

  pub stood : (n : ℕ) (s : Standing) → s.ending ≡ Ok tt → Stood (run n l s)
  stood n s e = kept Stood l (λ t p. by_turn Stood l t p (λ h b. stuck refl h b) (λ h b. goes refl)) n s (goes e)

  -- the portion that begins where another stands
  abbrev again : Standing → Standing
  again s = start s.position s.state s.answers

  -- where that stands at a bad event, it stays there
  at_once : (n : ℕ) (s : Standing) → s.ending ≡ Err (BadEvent s.position) → s.position < count l → bad (event_at l s.position) ≡ true
      → joined s (run n l (again s)) ≡ s
  at_once zero s e h b = alike s (add-zero s.ran) (ap (λ (x : Ending). both_end x (Ok tt)) e ∙ sym e)
  at_once (suc n) s e h b =
      let is = at_bad (suc n) l s.state s.position 0 s.answers (omega arith) h b in
      ap (joined s) (sym is) ∙ alike s (add-zero s.ran) (ap (λ (x : Ending). both_end x (Err (BadEvent s.position))) e ∙ sym e)

  goes_on_lem : (n : ℕ) (s : Standing) → Stood s → run n l s ≡ joined s (run n l (again s))
  goes_on_lem n s (goes e) =
      let same : later s.ran (again s) ≡ s = alike s (add-zero s.ran) (sym e) in
      let t = run n l (again s) in
      ap (run n l) (sym same) ∙ later_run n s.ran (again s)
      ∙ ap (λ (x : Ending). standing t.state t.position (s.ran + t.ran) (both_end x t.ending) t.answers) (sym e)
  goes_on_lem n s (stuck e h b) = halted n l s (ap goes_on e) ∙ sym (at_once n s e h b)

module _ (l : List ℕ) (p : ℕ) (r : Record) (a : List ℕ) where
  pub is_unfit : (n : ℕ) → sizes_fit (length l) (length a) ≡ false → replayed l p r a n ≡ refused_at BadArea p r a
  unfolding replayed
  is_unfit n h = sym (yes _ (ap not h) refl)

  pub is_unsound : (n : ℕ) → sizes_fit (length l) (length a) ≡ true → input_sound l ≡ false → replayed l p r a n ≡ refused_at Damaged p r a
  unfolding replayed
  is_unsound n h s = sym (no _ (ap not h) (yes _ (ap not s) refl))

  pub is_run : (n : ℕ) → sizes_fit (length l) (length a) ≡ true → input_sound l ≡ true → replayed l p r a n ≡ run n l (start p r a)
  unfolding replayed
  is_run n h s = sym (no _ (ap not h) (no _ (ap not s) refl))

-- where a portion comes to one standing and the next, from there, to another
two : (l : List ℕ) (p : ℕ) (r : Record) (a : List ℕ) (m n : ℕ) {one all : Standing} → replayed l p r a m ≡ one
    → replayed l p r a (m + n) ≡ all → all ≡ joined one (replayed l one.position one.state one.answers n)
    → replayed l p r a (m + n) ≡ joined (replayed l p r a m)
    (replayed l (replayed l p r a m).position (replayed l p r a m).state (replayed l p r a m).answers n)
two l p r a m n e f g =
    f ∙ g ∙ ap (λ (x : Standing). joined x (replayed l x.position x.state x.answers n)) (sym e)

pub portions_add_up : (l : List ℕ) (p : ℕ) (r : Record) (a : List ℕ) (m n : ℕ)
    → let one = replayed l p r a m in
    replayed l p r a (m + n) ≡ joined one (replayed l one.position one.state one.answers n)
portions_add_up l p r a m n =
    test (sizes_fit (length l) (length a))
    (λ h. test (input_sound l)
    (λ s.
    let one = run m l (start p r a) in
    let still = ap (sizes_fit (length l)) (run_length m l (start p r a)) ∙ h in
    two l p r a m n (is_run l p r a m h s) (is_run l p r a (m + n) h s)
    (run_adds m n l (start p r a) ∙ goes_on_lem l n one (stood l m (start p r a) refl)
    ∙ ap (joined one) (sym (is_run l one.position one.state one.answers n still s))))
    (λ s. two l p r a m n (is_unsound l p r a m h s) (is_unsound l p r a (m + n) h s) (ap (joined (refused_at Damaged p r a)) (sym (is_unsound l p r a n h s)))))
    (λ h. two l p r a m n (is_unfit l p r a m h) (is_unfit l p r a (m + n) h) (ap (joined (refused_at BadArea p r a)) (sym (is_unfit l p r a n h))))
