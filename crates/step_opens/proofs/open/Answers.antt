-- `step_opens::open` meets its contract. Assumes nothing.
use mathlib.Core.Path.{◌∙◌, ap}
use Rattle.std.specs.Prelude.{Ok}
use Rattle.record.specs.Answers.{answer, refuse}
use Rattle.answers.specs.declared.Answer.TheVariants.{Done}
use Rattle.answers.specs.declared.Was.TheVariants.{Nothing}
use Rattle.gates.specs.Gates.{gated}
use Rattle.gates.proofs.Passing.{barred_out, let_in}
use Rattle.step_opens.specs.Opening.{unopened, open_bars, open_step}
use Rattle.step_opens.proofs.open.Goals as goal

pub returns-in-Err : goal.returns-in-Err
unfolding open_step gated
returns-in-Err c =
    let a = c.args in
    barred_out (Ok tt) (open_bars a.sized a.accepted) c.open_gate.ensures unopened _ c.in-Err.is
    (c.refuse.ensures ∙ ap (refuse _) c.unopened.ensures)

pub returns : goal.returns
unfolding open_step gated
returns c =
    let a = c.args in
    let_in (Ok tt) (open_bars a.sized a.accepted) c.open_gate.ensures unopened c.in_default.is
    (c.answering.ensures ∙ ap (answer (Done Nothing)) c.opened.ensures)
