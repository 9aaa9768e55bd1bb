-- `plain::Taken::is_left` meets its contract: the code is the definition. Assumes nothing.
use mathlib.Core.Path.{refl}
use Rattle.plain.specs.Plain.{is_left}
use Rattle.plain.proofs.Taken.is_left.Goals as goal

pub returns : goal.returns
unfolding is_left
returns c = refl
