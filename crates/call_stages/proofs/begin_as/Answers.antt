-- `call_stages::begin_as` meets its contract: the step goes by the sizes of all that is lent, and payloads and pairs are moved
-- in turn. Assumes nothing.
use Rattle.moves.proofs.Laws.{in_turn}
use Rattle.moves.proofs.Sizes.{by_all}
use Rattle.call_stages.proofs.begin_as.Goals as goal

pub returns : goal.returns
returns c =
    let h = c in
    let k = h in
    let s = k in
    let z = s in
    by_all _ _ _ _ _ _ _ _ (in_turn _ _ _ _ (in_turn _ _ _ _ k.payload-half.ensures h.payload-staged.ensures) c.pairs.ensures)
    s.begin-stepped.ensures s.of-found.ensures
    z.is_sized.ensures z.is_sized-2.ensures z.is_sized-3.ensures z.are_pairs.ensures
