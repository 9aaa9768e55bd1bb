-- `step_updates::update_done` meets its contract. Assumes nothing.
use mathlib.Core.Path.{◌∙◌, ap}
use Rattle.choice.proofs.Picks.{yes, no}
use borrow.Author.Tests.{eq-eqb, ne_eqb}
use Rattle.record.specs.Answers.{answer}
use Rattle.answers.specs.declared.Answer.TheVariants.{Finished}
use Rattle.step_updates.specs.Updates.{update_done}
use Rattle.step_updates.proofs.update_done.Goals as goal

pub returns-then-r : goal.returns-then-r
unfolding update_done
returns-then-r c = yes _ (eq-eqb _ _ c.if-r.true) (c.answering.ensures ∙ ap (answer Finished) c.adopting.ensures)

pub returns : goal.returns
unfolding update_done
returns c = no _ (ne_eqb _ _ c.if-r.false) c.answering-2.ensures
