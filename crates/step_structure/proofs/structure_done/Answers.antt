-- `step_structure::structure_done` meets its contract. Assumes nothing.
use mathlib.Core.Bool.{Bool}
use mathlib.Core.Path.{ap, ◌∙◌}
use Rattle.choice.proofs.Picks.{yes, no, told}
use Rattle.phases.specs.Phases.{boundary}
use Rattle.record.specs.Answers.{answer}
use Rattle.record.specs.declared.Record.{Record}
use Rattle.answers.specs.declared.Answer.TheVariants.{More, Finished}
use Rattle.step_structure.specs.Structure.{structure_done}
use Rattle.step_structure.proofs.structure_done.Goals as goal

abbrev at_boundary : Record → Bool
at_boundary r = boundary r.phase.number

pub returns-then-boundary : goal.returns-then-boundary
unfolding structure_done
returns-then-boundary c =
    let k = c in
    let e = k.advanced-next.ensures in
    yes _ (told (k.boundary.ensures ∙ ap at_boundary e) c.if-boundary.true) (c.answering.ensures ∙ ap (answer Finished) e)

pub returns : goal.returns
unfolding structure_done
returns c =
    let k = c in
    let e = k.advanced-next.ensures in
    no _ (told (k.boundary.ensures ∙ ap at_boundary e) c.if-boundary.false) (c.answering-2.ensures ∙ ap (answer More) e)
