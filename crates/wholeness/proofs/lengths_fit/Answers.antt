-- `wholeness::lengths_fit` meets its contract: the code is the definition. Assumes nothing.
use mathlib.Core.Path.{refl}
use Rattle.choice.specs.Pick.{◌and◌}
use Rattle.wholeness.specs.Whole.{lengths_fit}
use Rattle.wholeness.proofs.lengths_fit.Goals as goal

pub returns : goal.returns
unfolding lengths_fit ◌and◌
returns c = refl
