-- `tickets::Live::is` meets its contract. Assumes nothing.
use Rattle.choice.specs.Pick.{◌and◌}
use Rattle.tickets.specs.Live.{is_live}
use Rattle.tickets.proofs.Live.is.Goals as goal

pub returns : goal.returns
unfolding is_live ◌and◌
returns c = simp (c.work.ensures, c.number.ensures)
