-- `replies::of_refusal` meets its contract. Assumes nothing.
use Rattle.replies.proofs.of_refusal.Goals as goal

pub returns : goal.returns
returns c = simp (c.bare.ensures, c.number.ensures)
