-- `call_recoveries::recover_retained` meets its contract: areas of the right size replace one another whole. Assumes nothing.
use Rattle.moves.proofs.Sizes.{replaced}
use Rattle.call_recoveries.proofs.recover_retained.Goals as goal

pub returns : goal.returns
returns c = search replaced
