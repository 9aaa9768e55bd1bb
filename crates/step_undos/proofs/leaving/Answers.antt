-- `step_undos::leaving` meets its contract. Assumes nothing.
use Prim.Native.Nat.{ℕ}
use mathlib.Core.Path.{refl, ap}
use Rattle.choice.proofs.Picks.{yes, no}
use borrow.Author.Tests.{eq-eqb, ne_eqb}
use Rattle.record.specs.Fields.{with_place}
use Rattle.step_undos.specs.Undos.{leaving}
use Rattle.step_undos.proofs.leaving.Goals as goal

pub returns-then-r-eq-UNDO : goal.returns-then-r-eq-UNDO
unfolding leaving
returns-then-r-eq-UNDO c =
    let r = c.args.r in
    ap (λ (p : ℕ). with_place p r.forward r.back r) (yes _ (eq-eqb _ _ c.if-r-eq-UNDO.true) refl)

pub returns-else-r-eq-UNDO : goal.returns-else-r-eq-UNDO
unfolding leaving
returns-else-r-eq-UNDO c =
    let r = c.args.r in
    ap (λ (p : ℕ). with_place p r.forward r.back r) (no _ (ne_eqb _ _ c.if-r-eq-UNDO.false) refl)
