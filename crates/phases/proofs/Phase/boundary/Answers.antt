-- `phases::Phase::boundary` meets its contract. Assumes nothing.
use Rattle.choice.specs.Pick.{◌or◌}
use Rattle.choice.proofs.Tests.{branches}
use Rattle.phases.specs.Phases.{boundary}
use Rattle.phases.proofs.Phase.boundary.Goals as goal

pub returns-in-5 : goal.returns-in-5
unfolding boundary ◌or◌
returns-in-5 c = search branches

pub returns-in_default : goal.returns-in_default
unfolding boundary ◌or◌
returns-in_default c = search branches
