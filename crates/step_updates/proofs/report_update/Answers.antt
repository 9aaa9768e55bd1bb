-- `step_updates::report_update` meets its contract. Assumes nothing.
use Rattle.record.specs.Given.{effect_of}
use Rattle.gates.proofs.Passing.{barred_out, let_in}
use Rattle.step_updates.specs.Updates.{update_done, report_update_bars, report_update_own}
use Rattle.reporting.proofs.Taken.{update_room, taking}
use Rattle.step_updates.proofs.report_update.Goals as goal

pub returns-in-Err : goal.returns-in-Err
unfolding report_update_own
returns-in-Err c =
    let a = c.args in
    barred_out _ (report_update_bars a.r a.given.ticket) c.report_gate.ensures a.r _ c.in-Err.is c.refuse.ensures

pub update_done-requires : goal.update_done-requires
update_done-requires c =
    let a = c.args in
    let b = report_update_bars a.r a.given.ticket in
    rw c.with_ticket-spent.ensures (update_room _ _ a.r b c.report_gate.ensures c.in_default.is)

pub returns : goal.returns
unfolding report_update_own
returns c =
    let a = c.args in
    let_in _ (report_update_bars a.r a.given.ticket) c.report_gate.ensures a.r c.in_default.is
    (taking update_done (effect_of a.given.outcome) c.reported.ensures c.update_done.ensures c.with_ticket-spent.ensures)
