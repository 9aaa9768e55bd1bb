-- `tail_table::File::before` meets its contract. Assumes nothing.
use mathlib.Core.Path.{refl}
use Rattle.choice.specs.Pick.{◌and◌, ◌or◌}
use Rattle.tail_table.specs.Table.{before}
use Rattle.tail_table.proofs.File.before.Goals as goal

pub returns : goal.returns
unfolding before ◌and◌ ◌or◌
returns c = refl
