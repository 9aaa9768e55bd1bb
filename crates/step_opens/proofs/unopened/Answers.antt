-- `step_opens::unopened` meets its contract. Assumes nothing.
use Rattle.step_opens.proofs.unopened.Goals as goal

pub returns : goal.returns
returns c = rw c.start.ensures at c.opened.ensures
