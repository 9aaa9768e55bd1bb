-- `wholeness::restoring_fits` meets its contract: in each phase, its own line is left of the definition. Assumes nothing.
use Rattle.std.proofs.Math.Bool.{and-true}
use Rattle.choice.specs.Pick.{◌and◌, ◌or◌, ◌implies◌}
use Rattle.choice.proofs.Tests.{branches}
use Rattle.wholeness.specs.Whole.{restoring_fits}
use Rattle.wholeness.proofs.restoring_fits.Goals as goal

pub returns-in-0 : goal.returns-in-0
unfolding restoring_fits ◌and◌ ◌or◌ ◌implies◌
returns-in-0 c = search (branches, and-true)

pub returns-in-1-to-4 : goal.returns-in-1-to-4
unfolding restoring_fits ◌and◌ ◌or◌ ◌implies◌
returns-in-1-to-4 c = search (branches, and-true)

pub returns-in-5 : goal.returns-in-5
unfolding restoring_fits ◌and◌ ◌or◌ ◌implies◌
returns-in-5 c = search (branches, and-true)

pub returns-in-6 : goal.returns-in-6
unfolding restoring_fits ◌and◌ ◌or◌ ◌implies◌
returns-in-6 c = search (branches, and-true)

pub returns-in-8 : goal.returns-in-8
unfolding restoring_fits ◌and◌ ◌or◌ ◌implies◌
returns-in-8 c = search (branches, and-true)

pub returns-in_default : goal.returns-in_default
unfolding restoring_fits ◌and◌ ◌or◌ ◌implies◌
returns-in_default c = search (branches, and-true)
