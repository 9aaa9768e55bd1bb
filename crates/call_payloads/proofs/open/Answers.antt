-- `call_payloads::open` meets its contract: the step goes by the area's size. Assumes nothing.
use Rattle.areas.specs.Areas.{sized}
use Rattle.moves.proofs.Sizes.{told_by}
use Rattle.call_payloads.proofs.open.Goals as goal

pub returns : goal.returns
unfolding sized
returns c =
    let s = c in
    told_by _ _ c.payload.ensures (rw s.is_sized.ensures at s.open-stepped.ensures)
