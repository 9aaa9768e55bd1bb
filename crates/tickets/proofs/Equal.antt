-- What the equality of tickets says of their works and numbers. Assumes nothing.
use mathlib.Core.Path.{◌≡◌, refl}
use lib.Dec.{eqb}
use Rattle.tickets.specs.Live.{work_of, no_ticket}
use Rattle.tickets.specs.declared.Live.{Live}
use Rattle.tickets.specs.declared.Live.TheVariants.{None, Structure, Update, Rollback}
use Rattle.tickets.specs.contracts.LivePartialEq.TheImpl as derived

-- no ticket is live
pub is_none : (l : Live) → derived.ghosts.eq l None ≡ eqb (work_of l) no_ticket
is_none None = refl
is_none (Structure n) = refl
is_none (Update n) = refl
is_none (Rollback n) = refl
