-- `call_ends::refresh` meets its contract: areas of the right size are exchanged whole. Assumes nothing.
use Rattle.moves.proofs.Sizes.{crossed}
use Rattle.call_ends.proofs.refresh.Goals as goal

pub returns : goal.returns
returns c = search crossed
