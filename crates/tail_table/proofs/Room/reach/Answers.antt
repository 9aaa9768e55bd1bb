-- `tail_table::Room::reach` meets its contract. Assumes nothing.
use mathlib.Core.Path.{refl}
use Rattle.choice.specs.Pick.{◌and◌}
use Rattle.choice.proofs.Picks.{yes, no}
use Rattle.tail_table.proofs.Room.reach.Goals as goal

pub returns-then-self-used : goal.returns-then-self-used
unfolding ◌and◌
returns-then-self-used c = yes _ c.if-self-used.true refl

pub returns-else-self-used : goal.returns-else-self-used
unfolding ◌and◌
returns-else-self-used c = no _ c.if-self-used.false refl
