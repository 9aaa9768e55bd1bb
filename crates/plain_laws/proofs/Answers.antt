-- Where the engine agrees with the record, so do its answers, question by question. Assumes nothing.
use Prim.Native.Nat.{ℕ, ◌≤◌, ◌<◌}
use mathlib.Core.Path.{◌≡◌, refl, sym, ◌∙◌, ap}
use mathlib.Core.Bool.{Bool, true, false, not}
use native.Mathlib.Omega.{arith}
use lib.Dec.{eqb, ltb}
use borrow.Author.Tests.{lt-ltb, le-ltb, eq-eqb, ne_eqb}
use Rattle.choice.specs.Pick.{◌and◌, ◌or◌}
use Rattle.choice.proofs.Tests.{test, no_left, no_right}
use Rattle.phases.specs.Phases.{has_successor}
use Rattle.record.specs.declared.Record.{Record}
use Rattle.calls.specs.Calls.Work.{structure, update, rollback}
use Rattle.calls.specs.Calls.Call.{ask}
use Rattle.demand_steps.specs.Knowing.{Watch}
use Rattle.demand_steps.proofs.Leaf.{Updates}
use Rattle.demand_steps.proofs.Facts.{tests, by_case}
use Rattle.demand_steps.proofs.Testing.{ranges}
use Rattle.demand_chains.specs.Plans.{due}
use Rattle.demand_chains.proofs.Course.{Kind}
use Rattle.demand_chains.proofs.Course.Kind.{update_only, structural}
use Rattle.plain.specs.declared.Taken.{Taken}
use Rattle.plain.specs.declared.Question.{Question}
use Rattle.plain.specs.declared.Question.TheVariants.{Phase, CommitAllowed, RecoveryAllowed, DueAsking, Revision}
use Rattle.plain.specs.Plain.{yes_no, is_updated, is_left, is_updating, due_asking, answer_to}
use Rattle.plain_laws.specs.Agreement.{due_of, says}
use Rattle.plain_laws.proofs.Knowing.{Agrees, turned, kind, by_row}
use Rattle.plain_laws.proofs.Allowing.{commit_same, recovery_same}
use Rattle.plain_laws.proofs.Asking.{updated-same}

-- of at most n, fewer
fewer : (a n : ℕ) → a ≤ n → not (eqb a n) ≡ ltb a n
fewer a n h = by_case a n (λ (i : a < n). rw (lt-ltb a n i, ne_eqb a n (λ e. omega arith))) (λ (i : n ≤ a). rw (le-ltb a n i, eq-eqb a n (omega arith)))

alone : (b : Bool) → b and true and true ≡ b or false
unfolding ◌and◌ ◌or◌
alone true = refl
alone false = refl

nothing : (a b : Bool) → a and false and b ≡ false
unfolding ◌and◌
nothing true b = refl
nothing false b = refl

module _ {t : Taken} {w : Watch} {r : Record} (x : Agrees t w r) where
  ahead_due : r.restoring ≡ false → Kind t.structural r.phase.number → is_updating t and (t.structural or not (is_updated t)) ≡ due r (ask update)
  unfolding due ◌and◌ ◌or◌
  ahead_due v (update_only s p) =
      let c = x.good.is_whole.size in
      simp ((by_row x).updating, p, v, s) (ap not (updated-same x (Updates.flat p) v) ∙ fewer r.applied r.entries (omega (arith, c)))
  ahead_due v (structural s p) = simp ((by_row x).updating, v, s, ne_eqb r.phase.number 0 (λ e. omega arith)) (alone (eqb r.phase.number 5))

  update_due : is_updating t and (t.structural or not (is_updated t)) ≡ due r (ask update)
  unfolding due ◌and◌ ◌or◌
  update_due =
      test r.restoring
      (λ v. let g = (ranges x.good.is_whole.stage).turned in
      no_left _ ((by_row x).updating ∙ no_right (eqb r.phase.number 0 or eqb r.phase.number 5) (ap not v))
      ∙ simp (v, ne_eqb r.phase.number 5 (λ e. let f = g.ahead (omega arith) (omega arith) in absurd (omega tests))) (sym (nothing (eqb r.phase.number 0) _)))
      (λ v. ahead_due v (kind x))

  rollback_due : t.turned and is_left t ≡ due r (ask rollback)
  unfolding due ◌and◌
  rollback_due =
      test r.restoring
      (λ v. simp (turned x, v, (by_row x).left) (ap (ltb 0) ((ranges x.good.is_whole.stage).turned.all v)))
      (λ v. simp (turned x, v))

  structure_due : has_successor r.phase.number ≡ due r (ask structure)
  unfolding due
  structure_due = refl

  pub answers_same : (q : Question) → answer_to q t ≡ says q r
  unfolding answer_to says due_asking due_of
  answers_same Phase = (by_row x).phase
  answers_same CommitAllowed = ap yes_no (commit_same x)
  answers_same RecoveryAllowed = ap yes_no (recovery_same x)
  answers_same DueAsking = rw ((by_row x).settling ∙ structure_due, update_due, rollback_due)
  answers_same Revision = x.holds.counts.0
