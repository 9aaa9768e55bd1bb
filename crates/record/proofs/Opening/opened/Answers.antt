-- `record::Opening::opened` meets its contract: the code is the definition. Assumes nothing.
use mathlib.Core.Path.{refl}
use Rattle.record.specs.Given.{opening}
use Rattle.record.proofs.Opening.opened.Goals as goal

pub returns : goal.returns
unfolding opening
returns c = refl
