-- `phases::Phase::has_successor` meets its contract. Assumes nothing.
use Rattle.choice.specs.Pick.{◌and◌, ◌or◌}
use Rattle.choice.proofs.Tests.{branches}
use Rattle.phases.specs.Phases.{has_successor}
use Rattle.phases.proofs.Phase.has_successor.Goals as goal

pub returns-in_default : goal.returns-in_default
unfolding has_successor ◌and◌ ◌or◌
returns-in_default c = search branches

pub returns-in_default-2 : goal.returns-in_default-2
unfolding has_successor ◌and◌ ◌or◌
returns-in_default-2 c = search branches

pub returns-in_default-3 : goal.returns-in_default-3
unfolding has_successor ◌and◌ ◌or◌
returns-in_default-3 c = search branches

pub returns-in-1-to-4 : goal.returns-in-1-to-4
unfolding has_successor ◌and◌ ◌or◌
returns-in-1-to-4 c = search branches

pub returns-in-1-to-4-2 : goal.returns-in-1-to-4-2
unfolding has_successor ◌and◌ ◌or◌
returns-in-1-to-4-2 c = search branches

pub returns-in-1-to-4-3 : goal.returns-in-1-to-4-3
unfolding has_successor ◌and◌ ◌or◌
returns-in-1-to-4-3 c = search branches
