-- `wholeness::forward_fits` meets its contract: in each phase, its own line is left of the definition. Assumes nothing.
use Rattle.std.proofs.Math.Bool.{or-false}
use Rattle.choice.specs.Pick.{◌and◌, ◌or◌}
use Rattle.choice.proofs.Tests.{branches}
use Rattle.wholeness.specs.Whole.{forward_fits}
use Rattle.wholeness.proofs.forward_fits.Goals as goal

pub returns-in-0 : goal.returns-in-0
unfolding forward_fits ◌and◌ ◌or◌
returns-in-0 c = search (branches, or-false)

pub returns-in-2 : goal.returns-in-2
unfolding forward_fits ◌and◌ ◌or◌
returns-in-2 c = search (branches, or-false)

pub returns-in-3 : goal.returns-in-3
unfolding forward_fits ◌and◌ ◌or◌
returns-in-3 c = search (branches, or-false)

pub returns-in-4 : goal.returns-in-4
unfolding forward_fits ◌and◌ ◌or◌
returns-in-4 c = search (branches, or-false)

pub returns-in-5 : goal.returns-in-5
unfolding forward_fits ◌and◌ ◌or◌
returns-in-5 c = search (branches, or-false)

pub returns-in-7 : goal.returns-in-7
unfolding forward_fits ◌and◌ ◌or◌
returns-in-7 c = search (branches, or-false)

pub returns-in-8 : goal.returns-in-8
unfolding forward_fits ◌and◌ ◌or◌
returns-in-8 c = search (branches, or-false)

pub returns-in_default : goal.returns-in_default
unfolding forward_fits ◌and◌ ◌or◌
returns-in_default c = search (branches, or-false)
