-- `wholeness::counts_fit` meets its contract: the code is the definition. Assumes nothing.
use mathlib.Core.Path.{refl}
use Rattle.choice.specs.Pick.{◌and◌}
use Rattle.wholeness.specs.Whole.{counts_fit}
use Rattle.wholeness.proofs.counts_fit.Goals as goal

pub returns : goal.returns
unfolding counts_fit ◌and◌
returns c = refl
