-- `tail_table::Room::of_words` meets its contract. Assumes nothing.
use mathlib.Core.Path.{refl}
use Rattle.choice.specs.Pick.{◌or◌}
use Rattle.tail_table.specs.Table.{other_words}
use Rattle.tail_table.proofs.Room.of_words.Goals as goal

pub returns : goal.returns
unfolding other_words ◌or◌
returns c = refl
