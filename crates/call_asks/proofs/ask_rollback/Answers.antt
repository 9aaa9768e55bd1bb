-- `call_asks::ask_rollback` meets its contract: nothing is lent, so that it is the step itself. Assumes nothing.
use Rattle.call_asks.proofs.ask_rollback.Goals as goal

pub returns : goal.returns
returns c = rw c.of.ensures at c.ask_rollback.ensures
