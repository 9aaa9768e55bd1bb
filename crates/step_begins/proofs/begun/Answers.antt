-- `step_begins::begun` meets its contract. Assumes nothing.
use Rattle.step_begins.specs.Beginning.{begun}
use Rattle.step_begins.proofs.begun.Goals as goal

pub returns : goal.returns
unfolding begun
returns c = c.with_ticket.ensures
