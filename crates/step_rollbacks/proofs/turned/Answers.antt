-- `step_rollbacks::turned` meets its contract. Assumes nothing.
use Prim.Native.Nat.{ℕ}
use mathlib.Core.Bool.{true}
use mathlib.Core.Path.{refl, ap}
use Rattle.choice.specs.Pick.{◌and◌}
use Rattle.choice.proofs.Picks.{yes, no}
use Rattle.record.specs.Fields.{with_place, with_batch}
use Rattle.record.specs.declared.Record.{Record}
use Rattle.step_rollbacks.specs.Rollbacks.{turned}
use Rattle.step_rollbacks.proofs.turned.Goals as goal

-- the record on its way back, in a phase
abbrev to : Record → ℕ → Record
to r p = with_place p r.forward r.back (with_batch r.attempted r.applied r.attempted true r)

pub returns-then-r : goal.returns-then-r
unfolding turned ◌and◌
returns-then-r c =
    let r = c.args.r in
    ap (to r) (yes _ c.if-r.true refl)

pub returns-else-r : goal.returns-else-r
unfolding turned ◌and◌
returns-else-r c =
    let r = c.args.r in
    ap (to r) (no _ c.if-r.false refl)
