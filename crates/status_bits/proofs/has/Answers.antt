-- `status_bits::has` meets its contract. Assumes nothing.
use Rattle.status_bits.proofs.Masks.{tested}
use Rattle.status_bits.proofs.has.Goals as goal

pub returns : goal.returns
returns c = tested _ _ c.requires c.ranges.byte.fits
