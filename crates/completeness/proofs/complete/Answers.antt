-- `completeness::complete` meets its contract: the code is the definition. Assumes nothing.
use mathlib.Core.Path.{refl}
use Rattle.choice.specs.Pick.{◌and◌}
use Rattle.completeness.specs.Complete.{complete}
use Rattle.completeness.proofs.complete.Goals as goal

pub returns : goal.returns
unfolding complete ◌and◌
returns c = refl
