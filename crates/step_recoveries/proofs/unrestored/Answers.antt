-- `step_recoveries::unrestored` meets its contract: the code is the definition. Assumes nothing.
use mathlib.Core.Path.{refl}
use Rattle.choice.specs.Pick.{◌or◌}
use Rattle.step_recoveries.specs.Recovering.{unrestored}
use Rattle.step_recoveries.proofs.unrestored.Goals as goal

pub returns : goal.returns
unfolding unrestored ◌or◌
returns c = refl
