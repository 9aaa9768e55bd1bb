-- An event that is not bad is the event of a recorded call, the one that it means: no word of it is left to chance. Assumes nothing.
use Prim.Native.Nat.{ℕ, zero, suc, ◌≤◌}
use mathlib.Core.Path.{◌≡◌, refl, sym, ap, ◌∙◌}
use mathlib.Core.Bool.{true, false}
use lib.Dec.{eqb}
use native.Mathlib.Omega.{arith}
use Rattle.choice.specs.Pick.{pick, ◌and◌, ◌or◌}
use Rattle.choice.proofs.Tests.{neither, no_left}
use Rattle.calls.specs.Kinds.{kind_of}
use Rattle.log_layout.specs.Kinds as kinds
use Rattle.input_events.specs.declared.Event.{Event}
use Rattle.input_events.specs.Events.{failed, done, begins, takes_snapshot, bad}
use Rattle.input_events.specs.Meaning.{outcome_of, call_by, meant}
use Rattle.replay_laws.specs.Recording.{is_recorded, outcome_word, code_word, begin_event, report_event, plain_event, event_of}
use Rattle.replay_laws.proofs.Good.{Plain, plain}

abbrev event : ℕ → ℕ → ℕ → ℕ → ℕ → ℕ → ℕ → ℕ → Event
event k t o c a n s z = record { kind = k; ticket = t; outcome = o; code = c; actions = a; candidate = n; second = s; last = z }

-- two events with the same words
same : (e : Event) {k t o c a n s z : ℕ} → k ≡ e.kind → t ≡ e.ticket → o ≡ e.outcome → c ≡ e.code → a ≡ e.actions → n ≡ e.candidate
    → s ≡ e.second → z ≡ e.last → event k t o c a n s z ≡ e
same e p q u v w x y z = simp (p, q, u, v, w, x, y, z) refl

-- an outcome's words, of a code that is zero unless it is Failed
outcome_back : (o c : ℕ) → o ≤ done → (eqb o failed ≡ false → c ≡ 0) → (outcome_word (outcome_of o c) ≡ o) × (code_word (outcome_of o c) ≡ c)
unfolding pick
outcome_back zero c h f = (refl, sym (f refl))
outcome_back (suc zero) c h f = (refl, refl)
outcome_back (suc (suc zero)) c h f = (refl, sym (f refl))
outcome_back (suc (suc (suc o))) c h f = absurd (omega (arith, h))

-- the event of a call of each form, where its kind is known
module _ (e : Event) (p : Plain e) (k : ℕ) (is : e.kind ≡ k) where
  begin_back : kinds.reports k ≡ false → begin_event k e.actions e.candidate e.second ≡ e
  begin_back r =
      let s = ap kinds.reports is ∙ r in
      same e (sym is) (sym (p.ticket s)) (sym (p.outcome s)) (sym (p.code (no_left _ s))) refl refl refl (sym p.last)

  snapshot_back : kinds.reports k ≡ false → begins k or eqb k kinds.report_structure ≡ false → plain_event k e.second ≡ e
  snapshot_back r b =
      let s = ap kinds.reports is ∙ r in
      let c = ap (λ (n : ℕ). begins n or eqb n kinds.report_structure) is ∙ b in
      same e (sym is) (sym (p.ticket s)) (sym (p.outcome s)) (sym (p.code (no_left _ s))) (sym (p.actions (neither c).0)) (sym (p.candidate c)) refl
      (sym p.last)

  second_back : begins k or eqb k kinds.report_structure or takes_snapshot k ≡ false → 0 ≡ e.second
  second_back b = sym (p.second (ap (λ (n : ℕ). begins n or eqb n kinds.report_structure or takes_snapshot n) is ∙ b))

  bare_back : kinds.reports k ≡ false → begins k or eqb k kinds.report_structure or takes_snapshot k ≡ false → plain_event k 0 ≡ e
  bare_back r b = ap (plain_event k) (second_back b) ∙ snapshot_back r (neither b).0

  structure_back : kinds.reports k ≡ true → begins k ≡ false → report_event k e.ticket (outcome_of e.outcome e.code) e.candidate e.second ≡ e
  unfolding ◌and◌
  structure_back r b =
      let o = outcome_back e.outcome e.code p.outcome_most (λ f. p.code (simp (is, r) f)) in
      same e (sym is) refl o.0 o.1 (sym (p.actions (ap begins is ∙ b))) refl refl (sym p.last)

  report_back : kinds.reports k ≡ true → begins k or eqb k kinds.report_structure or takes_snapshot k ≡ false
      → report_event k e.ticket (outcome_of e.outcome e.code) 0 0 ≡ e
  report_back r b =
      let c = (neither b).0 in
      let candidate = sym (p.candidate (ap (λ (n : ℕ). begins n or eqb n kinds.report_structure) is ∙ c)) in
      ap (λ (n : ℕ). report_event k e.ticket (outcome_of e.outcome e.code) n 0) candidate
      ∙ ap (report_event k e.ticket (outcome_of e.outcome e.code) e.candidate) (second_back b)
      ∙ structure_back r (neither c).0

-- what holds of each of the twelve kinds holds of a number from 1 to 12
each_kind : (P : ℕ → Type 0) → P 1 → P 2 → P 3 → P 4 → P 5 → P 6 → P 7 → P 8 → P 9 → P 10 → P 11 → P 12 → (k : ℕ) → 1 ≤ k → k ≤ 12 → P k
each_kind P a b c d e f g h i j l m zero low high = absurd (omega (arith, low))
each_kind P a b c d e f g h i j l m (suc zero) low high = a
each_kind P a b c d e f g h i j l m (suc (suc zero)) low high = b
each_kind P a b c d e f g h i j l m (suc (suc (suc zero))) low high = c
each_kind P a b c d e f g h i j l m (suc (suc (suc (suc zero)))) low high = d
each_kind P a b c d e f g h i j l m (suc (suc (suc (suc (suc zero))))) low high = e
each_kind P a b c d e f g h i j l m (suc (suc (suc (suc (suc (suc zero)))))) low high = f
each_kind P a b c d e f g h i j l m (suc (suc (suc (suc (suc (suc (suc zero))))))) low high = g
each_kind P a b c d e f g h i j l m (suc (suc (suc (suc (suc (suc (suc (suc zero)))))))) low high = h
each_kind P a b c d e f g h i j l m (suc (suc (suc (suc (suc (suc (suc (suc (suc zero))))))))) low high = i
each_kind P a b c d e f g h i j l m (suc (suc (suc (suc (suc (suc (suc (suc (suc (suc zero)))))))))) low high = j
each_kind P a b c d e f g h i j l m (suc (suc (suc (suc (suc (suc (suc (suc (suc (suc (suc zero))))))))))) low high = l
each_kind P a b c d e f g h i j l m (suc (suc (suc (suc (suc (suc (suc (suc (suc (suc (suc (suc zero)))))))))))) low high = m
each_kind P a b c d e f g h i j l m (suc (suc (suc (suc (suc (suc (suc (suc (suc (suc (suc (suc (suc k))))))))))))) low high = absurd (omega (arith, high))

-- it is the event of a recorded call, and that is the call that it means
pub good_is_a_call : (e : Event) → bad e ≡ false → (is_recorded (meant e) ≡ true) × (event_of (meant e) ≡ e)
unfolding call_by pick event_of kind_of ◌or◌
good_is_a_call e h =
    let p = plain e h in
    each_kind (λ (k : ℕ). e.kind ≡ k → (is_recorded (call_by k e) ≡ true) × (event_of (call_by k e) ≡ e))
    (λ is. (refl, begin_back e p 1 is refl))
    (λ is. (refl, begin_back e p 2 is refl))
    (λ is. (refl, bare_back e p 3 is refl refl))
    (λ is. (refl, structure_back e p 4 is refl refl))
    (λ is. (refl, bare_back e p 5 is refl refl))
    (λ is. (refl, report_back e p 6 is refl refl))
    (λ is. (refl, bare_back e p 7 is refl refl))
    (λ is. (refl, report_back e p 8 is refl refl))
    (λ is. (refl, bare_back e p 9 is refl refl))
    (λ is. (refl, snapshot_back e p 10 is refl refl))
    (λ is. (refl, bare_back e p 11 is refl refl))
    (λ is. (refl, snapshot_back e p 12 is refl refl))
    e.kind p.least p.most refl
