-- `step_structure::report_structure` meets its contract. Assumes nothing.
use Rattle.record.specs.Given.{effect_of}
use Rattle.gates.proofs.Passing.{barred_out, let_in}
use Rattle.step_structure.specs.Structure.{structure_done, report_structure_bars, report_structure_own}
use Rattle.reporting.proofs.Taken.{structure_room, taking}
use Rattle.step_structure.proofs.report_structure.Goals as goal

pub returns-in-Err : goal.returns-in-Err
unfolding report_structure_own
returns-in-Err c =
    let a = c.args in
    barred_out _ (report_structure_bars a.r a.given.ticket a.candidate a.recovery) c.structure_gate.ensures a.r _ c.in-Err.is c.refuse.ensures

pub structure_done-requires : goal.structure_done-requires
structure_done-requires c =
    let a = c.args in
    rw c.with_ticket-spent.ensures
    (structure_room _ _ a.r (report_structure_bars a.r a.given.ticket a.candidate a.recovery) c.structure_gate.ensures c.in_default.is)

pub returns : goal.returns
unfolding report_structure_own
returns c =
    let a = c.args in
    let_in _ (report_structure_bars a.r a.given.ticket a.candidate a.recovery) c.structure_gate.ensures a.r c.in_default.is
    (taking structure_done (effect_of a.given.outcome) c.reported.ensures c.structure_done.ensures c.with_ticket-spent.ensures)
