-- Until commit or recovery succeeds some asking is due, and it is granted unless the serial is at its maximum. Assumes nothing.
use Prim.Native.Nat.{◌≤◌, ◌<◌}
use mathlib.Core.Path.{◌≡◌, sym, ◌∙◌}
use mathlib.Core.Bool.{Bool, true, false, not, ◌&&◌, ◌||◌}
use mathlib.Core.Logic.{◌≢◌}
use lib.Dec.{eqb, ltb}
use lib.ListN.{length}
use native.Mathlib.Omega.{arith}
use borrow.Author.Tests.{eq-eqb, ne_eqb, lt-ltb, ltb-true, not-false}
use Rattle.choice.proofs.Tests.{eqb_ne, join}
use Rattle.record.specs.declared.Record.{Record}
use Rattle.calls.specs.Calls.{Call}
use Rattle.calls.specs.Calls.Work.{structure, update, rollback}
use Rattle.calls.specs.Calls.Call.{ask}
use Rattle.demand_steps.specs.Knowing.{Watch}
use Rattle.demand_chains.specs.Plans.{planned, planned_back, due}
use Rattle.demand_chains.specs.Promises.{Asking}
use Rattle.demand_steps.proofs.Leaf.{Apart}
use Rattle.demand_steps.proofs.Facts.{Stage, Whole, by_case}
use Rattle.demand_steps.proofs.Facts.Stage.{flat, flat_back, before, updating, after, undoing, backing}
use Rattle.demand_steps.proofs.Testing.{ranges, right, not_yes}
use Rattle.demand_steps.proofs.Wholeness.{left, successor_test}
use Rattle.demand_chains.proofs.Chain.{Good}
use Rattle.demand_chains.proofs.Exactly.{commit_is, recover_is, forward_law, backward_law}
use Rattle.demand_chains.proofs.Granting.{clash, granted_whole}

-- until commit, or recovery, succeeds, some asking is due
record Some (r : Record) : Type 0 where
  call : Call
  is_due : due r call ≡ true

structure_due : (r : Record) → Whole r → Apart r.phase.number → Some r
unfolding due
structure_due r w y = record { call = (ask structure); is_due = successor_test _ (ranges w.stage).bound y }

rollback_due : (r : Record) → r.restoring ≡ true → 0 < r.entries → Some r
unfolding due
rollback_due r e h = record { call = (ask rollback); is_due = join e (lt-ltb _ _ h) }

update_due : (r : Record) → r.restoring ≡ false → r.phase.number ≡ 0 → r.applied < r.entries → Some r
unfolding due
update_due r e z h = record { call = (ask update); is_due = right _ (join (join (eq-eqb _ _ z) (not_yes _ e)) (lt-ltb _ _ h)) }

batch_due : (r : Record) → r.phase.number ≡ 5 → Some r
unfolding due
batch_due r e = record { call = (ask update); is_due = left _ (eq-eqb _ _ e) }

abbrev Ready : Record → Bool
Ready r = (eqb r.phase.number 0 || eqb r.phase.number 7) && (not r.restoring && eqb r.applied r.entries)

abbrev Restored : Record → Bool
Restored r = (eqb r.phase.number 0 || eqb r.phase.number 13) && not (ltb 0 r.entries)

some : (r : Record) → Whole r → Stage r.phase.number r.forward r.back r.entries r.applied r.attempted r.restoring →
    (r.restoring ≡ false → Ready r ≡ false) → (r.restoring ≡ true → Restored r ≡ false) → Some r
some r w (flat x1 x2 x3 x4) f g =
    let i : eqb r.applied r.entries ≡ false = rw (x1, x2) at (f x1) in
    let j : r.applied ≢ r.entries = eqb_ne _ _ i in
    update_due r x1 x2 (omega (arith, w.size))
some r w (flat_back x1 x2 x3 x4 x5) f g =
    let i : not (ltb 0 r.entries) ≡ false = rw x2 at (g x1) in
    rollback_due r x1 (ltb-true _ _ (not-false _ i))
some r w (before x1 x2 x3 x4 x5 x6) f g = structure_due r w (omega arith)
some r w (updating x1 x2 x3 x4 x5) f g = batch_due r x2
some r w (after x1 x2 x3 x4 x5 x6) f g = by_case r.phase.number 7 (λ (y : r.phase.number < 7). structure_due r w (omega arith)) (λ (y : 7 ≤ r.phase.number).
    let z : r.phase.number ≡ 7 = omega arith in
    let i : eqb r.applied r.entries ≡ false = rw (x1, z) at (f x1) in
    clash _ (eq-eqb _ _ x6) i)
some r w (undoing x1 x2 x3 x4 x5 x6 x7) f g = rollback_due r x1 x6
some r w (backing x1 x2 x3 x4 x5 x6 x7) f g = by_case r.phase.number 13 (λ (y : r.phase.number < 13). structure_due r w (omega arith)) (λ (y : 13 ≤ r.phase.number).
    let z : r.phase.number ≡ 13 = omega arith in
    let i : not (ltb 0 r.entries) ≡ false = rw z at (g x1) in
    let j : 0 < r.entries = ltb-true _ _ (not-false _ i) in
    absurd (omega arith))

-- "Until then the due asking of document 01 is granted, unless the serial is at its maximum"
pub asking_law : (w : Watch) (r : Record) → Good w r → w.running ≡ true →
    (w.turned ≡ false → length w.done ≢ planned w.structural w.size) →
    (w.turned ≡ true → length w.undone ≢ planned_back w.structural w.started) → Asking r
asking_law w r g i f b =
    let e : r.staged ≡ true = sym g.tied.running ∙ i in
    let t = g.tied.turning in
    let a = some r g.is_whole g.is_whole.stage
    (λ j. sym (commit_is g.is_whole e) ∙ (forward_law w r g i (t ∙ j)).exact ∙ ne_eqb _ _ (f (t ∙ j)))
    (λ j. sym (recover_is g.is_whole e) ∙ (backward_law w r g i (t ∙ j)).exact ∙ ne_eqb _ _ (b (t ∙ j))) in
    record { call = a.call; is_due = a.is_due; is_granted = granted_whole a.call g.is_whole a.is_due }
