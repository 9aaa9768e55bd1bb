-- `replies::of_done` meets its contract. Assumes nothing.
use Rattle.replies.proofs.of_done.Goals as goal

pub returns-in-Nothing : goal.returns-in-Nothing
returns-in-Nothing c = simp (c.bare.ensures, c.number-number.ensures, c.in-Nothing.is)

pub returns-in-One : goal.returns-in-One
returns-in-One c = simp (c.row.ensures, c.number-number.ensures, c.in-One.is)

pub returns-in-Three : goal.returns-in-Three
returns-in-Three c = simp (c.row-in-Three.ensures, c.number-number.ensures, c.in-Three.is)
