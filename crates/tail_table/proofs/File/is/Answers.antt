-- `tail_table::File::is` meets its contract. Assumes nothing.
use mathlib.Core.Path.{refl}
use Rattle.choice.specs.Pick.{◌and◌}
use Rattle.tail_table.specs.Table.{same}
use Rattle.tail_table.proofs.File.is.Goals as goal

pub returns : goal.returns
unfolding same ◌and◌
returns c = refl
