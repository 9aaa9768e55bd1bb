-- `wholeness::back_fits` meets its contract: in each phase, its own line is left of the definition. Assumes nothing.
use Rattle.std.proofs.Math.Bool.{or-false}
use Rattle.choice.specs.Pick.{◌and◌, ◌or◌}
use Rattle.choice.proofs.Tests.{branches}
use Rattle.wholeness.specs.Whole.{back_fits}
use Rattle.wholeness.proofs.back_fits.Goals as goal

pub returns-in-0-to-9 : goal.returns-in-0-to-9
unfolding back_fits ◌and◌ ◌or◌
returns-in-0-to-9 c = search (branches, or-false)

pub returns-in-10 : goal.returns-in-10
unfolding back_fits ◌and◌ ◌or◌
returns-in-10 c = search (branches, or-false)

pub returns-in-11 : goal.returns-in-11
unfolding back_fits ◌and◌ ◌or◌
returns-in-11 c = search (branches, or-false)

pub returns-in-12 : goal.returns-in-12
unfolding back_fits ◌and◌ ◌or◌
returns-in-12 c = search (branches, or-false)

pub returns-in-13 : goal.returns-in-13
unfolding back_fits ◌and◌ ◌or◌
returns-in-13 c = search (branches, or-false)

pub returns-in_default : goal.returns-in_default
unfolding back_fits ◌and◌ ◌or◌
returns-in_default c = search (branches, or-false)
