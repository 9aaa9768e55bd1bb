-- `tails::put_offset` meets its contract. Assumes nothing.
use mathlib.Core.Path.{refl}
use Rattle.tails.proofs.put_offset.Goals as goal

pub returns : goal.returns
returns c = refl
