-- `step_recoveries::recover` meets its contract: behind its gate the record is staged, so that its count can be raised. Assumes nothing.
use mathlib.Core.List.{[]}
use borrow.Author.Tests.{not-false}
use Rattle.gates.specs.Gates.{long_snapshot}
use Rattle.gates.proofs.Passing.{barred_out, let_in}
use Rattle.gates.proofs.Behind.{room_behind}
use Rattle.step_recoveries.specs.Recovering.{recover_bars, recover_own}
use Rattle.step_recoveries.proofs.recover.Goals as goal

pub returns-in-Err : goal.returns-in-Err
unfolding recover_own
returns-in-Err c =
    let a = c.args in
    barred_out _ (recover_bars a.r (long_snapshot a.length [])) c.snapshot_gate.ensures a.r _ c.in-Err.is c.refuse.ensures

pub recovered-requires : goal.recovered-requires
recovered-requires c =
    let a = c.args in
    (room_behind _ _ a.r (recover_bars a.r (long_snapshot a.length [])) (λ x. not-false _ x.0) c.snapshot_gate.ensures c.in_default.is).1

pub returns : goal.returns
unfolding recover_own
returns c =
    let a = c.args in
    let_in _ (recover_bars a.r (long_snapshot a.length [])) c.snapshot_gate.ensures a.r c.in_default.is c.recovered.ensures
