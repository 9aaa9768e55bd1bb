-- `wholeness::staged_fits` meets its contract: one of its two parts is left. Assumes nothing.
use Rattle.std.proofs.Math.Bool.{and-true}
use Rattle.choice.specs.Pick.{◌and◌, ◌or◌, ◌implies◌}
use Rattle.tickets.proofs.Equal.{is_none}
use Rattle.wholeness.specs.Whole.{staged_fits}
use Rattle.wholeness.proofs.staged_fits.Goals as goal

pub returns-then-r : goal.returns-then-r
unfolding staged_fits ◌and◌ ◌or◌ ◌implies◌
returns-then-r c = simp (c.if-r.true, and-true)

pub returns-else-r : goal.returns-else-r
unfolding staged_fits ◌and◌ ◌or◌ ◌implies◌
returns-else-r c = simp (c.if-r.false, c.eq.ensures, is_none)
