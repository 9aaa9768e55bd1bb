-- `status_bits::with` meets its contract. Assumes nothing.
use Rattle.status_bits.proofs.Masks.{put}
use Rattle.status_bits.proofs.with.Goals as goal

pub returns : goal.returns
returns c = put _ _ c.requires c.ranges.byte.fits
