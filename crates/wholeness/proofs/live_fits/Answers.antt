-- `wholeness::live_fits` meets its contract: in each kind of ticket, its own line is left of the definition. Assumes nothing.
use Rattle.std.proofs.Math.Bool.{and-true, and_assoc}
use Rattle.choice.specs.Pick.{◌and◌, ◌or◌, ◌implies◌}
use Rattle.wholeness.specs.Whole.{live_fits}
use Rattle.wholeness.proofs.live_fits.Goals as goal

pub returns-in-None : goal.returns-in-None
unfolding live_fits ◌and◌ ◌or◌ ◌implies◌
returns-in-None c = simp c.in-None.is

pub returns-in-Structure : goal.returns-in-Structure
unfolding live_fits ◌and◌ ◌or◌ ◌implies◌
returns-in-Structure c = simp (c.in-Structure.is, c.number.ensures, c.has_successor.ensures, and-true)

pub returns-in-Update : goal.returns-in-Update
unfolding live_fits ◌and◌ ◌or◌ ◌implies◌
returns-in-Update c = simp (c.in-Update.is, c.number.ensures, c.is_next.ensures, and-true, and_assoc)

pub returns-in-Rollback : goal.returns-in-Rollback
unfolding live_fits ◌and◌ ◌or◌ ◌implies◌
returns-in-Rollback c = simp (c.in-Rollback.is, c.number.ensures, and-true, and_assoc)
