-- `status::bytes_sound` meets its contract: a bit is tested by its mask. Assumes nothing.
use mathlib.Core.Path.{refl, ap}
use mathlib.Core.Bool.{Bool, ◌&&◌, ◌||◌}
use lib.Dec.{eqb, leb}
use Rattle.choice.specs.Pick.{◌and◌, ◌or◌}
use Rattle.status_bits.specs.Bits.{group_most, mark_most}
use Rattle.status_bits.proofs.Masks.{tested}
use Rattle.status.specs.Status.{bytes_sound}
use Rattle.status.proofs.bytes_sound.Goals as goal

pub returns : goal.returns
unfolding bytes_sound ◌and◌ ◌or◌
returns c =
    let group = c.args.group in
    let mark = c.args.mark in
    ap (λ (b : Bool). leb group group_most && leb mark mark_most && (eqb mark 0 || b)) (tested 1 mark refl c.ranges.mark.fits)
