-- `row_reading::in_ranges` meets its contract. Assumes nothing.
use mathlib.Core.Path.{refl}
use Rattle.choice.specs.Pick.{◌and◌, ◌or◌}
use Rattle.row_reading.specs.RowReading.{in_ranges}
use Rattle.row_reading.proofs.in_ranges.Goals as goal

pub returns : goal.returns
unfolding in_ranges ◌and◌ ◌or◌
returns c = refl
