-- `call_recoveries::recover` meets its contract: areas of the right size are exchanged whole. Assumes nothing.
use Rattle.moves.proofs.Sizes.{crossed}
use Rattle.call_recoveries.proofs.recover.Goals as goal

pub returns : goal.returns
returns c = search crossed
