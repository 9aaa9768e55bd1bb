-- `step_recoveries::recovered` meets its contract. Assumes nothing.
use Rattle.step_recoveries.proofs.recovered.Goals as goal

pub returns : goal.returns
returns c = rw c.opened.ensures at c.answering.ensures
