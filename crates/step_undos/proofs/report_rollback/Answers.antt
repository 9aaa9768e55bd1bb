-- `step_undos::report_rollback` meets its contract. Assumes nothing.
use Rattle.record.specs.Given.{effect_of}
use Rattle.gates.proofs.Passing.{barred_out, let_in}
use Rattle.step_undos.specs.Undos.{rollback_done, report_rollback_bars, report_rollback_own}
use Rattle.reporting.proofs.Taken.{rollback_room, taking}
use Rattle.step_undos.proofs.report_rollback.Goals as goal

pub returns-in-Err : goal.returns-in-Err
unfolding report_rollback_own
returns-in-Err c =
    let a = c.args in
    barred_out _ (report_rollback_bars a.r a.given.ticket) c.report_gate.ensures a.r _ c.in-Err.is c.refuse.ensures

pub rollback_done-requires : goal.rollback_done-requires
rollback_done-requires c =
    let a = c.args in
    rw c.with_ticket-spent.ensures (rollback_room _ _ a.r a.given.ticket c.report_gate.ensures c.in_default.is)

pub returns : goal.returns
unfolding report_rollback_own
returns c =
    let a = c.args in
    let_in _ (report_rollback_bars a.r a.given.ticket) c.report_gate.ensures a.r c.in_default.is
    (taking rollback_done (effect_of a.given.outcome) c.reported.ensures c.rollback_done.ensures c.with_ticket-spent.ensures)
