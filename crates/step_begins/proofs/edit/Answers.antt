-- `step_begins::edit` meets its contract. Assumes nothing.
use Rattle.gates.proofs.Passing.{barred_out, let_in}
use Rattle.step_begins.specs.Beginning.{edit_bars, edit_own}
use Rattle.step_begins.proofs.edit.Goals as goal

pub returns-in-Err : goal.returns-in-Err
unfolding edit_own
returns-in-Err c =
    let a = c.args in
    barred_out _ (edit_bars a.r a.candidate a.recovery) c.edit_gate.ensures a.r _ c.in-Err.is c.refuse.ensures

pub returns : goal.returns
unfolding edit_own
returns c =
    let a = c.args in
    let_in _ (edit_bars a.r a.candidate a.recovery) c.edit_gate.ensures a.r c.in_default.is c.answering.ensures
