-- The due asking is granted, unless the serial is at its maximum. Assumes nothing.
use mathlib.Core.Path.{◌≡◌, refl, sym, ◌∙◌}
use mathlib.Core.Bool.{Bool, true, false}
use mathlib.Core.Logic.{◌≢◌}
use lib.Dec.{eqb}
use borrow.Author.Tests.{eqb-true, not-true}
use Rattle.choice.specs.Pick.{pick}
use Rattle.choice.proofs.Picks.{picked, each}
use Rattle.choice.proofs.Tests.{never, both, either}
use Rattle.answers.specs.Classes.{granted}
use Rattle.record.specs.Answers.{Told}
use Rattle.record.specs.Fields.{top}
use Rattle.record.specs.declared.Record.{Record}
use Rattle.record.specs.Given.{standing}
use Rattle.wholeness.specs.Whole.{whole}
use Rattle.step_asks.specs.Asks.{ask_structure_own, ask_update_own}
use Rattle.step_rollbacks.specs.Rollbacks.{ask_rollback_own}
use Rattle.calls.specs.Calls.{Call, step}
use Rattle.demand_steps.specs.Typed.{Typed}
use Rattle.demand_chains.specs.Plans.{due}
use Rattle.demand_steps.proofs.Own.{own}
use Rattle.demand_steps.proofs.Leaf.{Apart, Updates}
use Rattle.demand_steps.proofs.Facts.{Whole}
use Rattle.demand_steps.proofs.Reading.{whole_facts}
use Rattle.demand_steps.proofs.Wholeness.{updates_test}
use Rattle.demand_chains.proofs.Chain.{undamaged}
use Rattle.demand_chains.proofs.OneDue.{Due, due_is}

abbrev Grants : Told → Type 0
Grants t = granted t.class ≡ true

pub clash : (b : Bool) {P : Type 0} → b ≡ true → b ≡ false → P
clash b p q = never (sym p ∙ q)

module _ (r : Record) (s : r.serial ≢ top) where
  -- a ticket unless the serial is at its maximum
  issues : (x y : Told) → Grants y → Grants (pick (eqb r.serial top) x y)
  issues x y g = picked Grants _ (λ e. absurd (s (eqb-true _ _ e))) (λ e. g)

  grants_structure : Apart r.phase.number → Grants (ask_structure_own r)
  unfolding ask_structure_own
  grants_structure y =
      picked Grants _ (λ e. absurd (either e (λ i. either i (λ j. y.not0 (eqb-true _ _ j)) (λ j. y.not5 (eqb-true _ _ j))) (λ i. y.not8 (eqb-true _ _ i))))
      (λ e. each Grants _ refl (issues _ _ refl))

  grants_update : Updates r.phase.number → r.restoring ≡ false → Grants (ask_update_own r)
  unfolding ask_update_own
  grants_update u v =
      picked Grants _ (λ e. either e (λ i. clash _ (updates_test _ u) (not-true _ i)) (λ i. clash _ i v)) (λ e. each Grants _ refl (issues _ _ refl))

  grants_rollback : Grants (ask_rollback_own r)
  unfolding ask_rollback_own
  grants_rollback = each Grants _ refl (picked Grants _ (λ i. absurd (s (eqb-true _ _ (both i).1))) (λ i. each Grants _ refl refl))

  grants_due : {c : Call} → Due r c → Grants (own r c)
  unfolding own
  grants_due (Due.settle y) = grants_structure y
  grants_due (Due.apply u v) = grants_update u v
  grants_due (Due.undo v n) = grants_rollback

pub granted_whole : {r : Record} (c : Call) → Whole r → due r c ≡ true → r.serial ≢ top → granted (step r c).class ≡ true
granted_whole {r} c w d s = rw (undamaged c w) (grants_due r s (due_is r w c d))

-- "the due asking of document 01 is granted, unless the serial is at its maximum"
pub due_granted : (r : Record) (c : Call) → Typed (standing r) → whole r ≡ true → due r c ≡ true → r.serial ≢ top → granted (step r c).class ≡ true
due_granted r c m h d s = granted_whole c (whole_facts r m h) d s
