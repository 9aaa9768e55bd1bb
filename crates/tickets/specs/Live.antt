-- Document 01, "What is lent and kept": "the record holds which kind of ticket is live, with its number". Assumes nothing.
use Rattle.std.specs.Prelude.{ℕ, Bool, eqb}
use Rattle.choice.specs.Pick.{◌and◌}
use Rattle.tickets.specs.declared.Live.{Live}
use Rattle.tickets.specs.declared.Live.TheVariants.{None, Structure, Update, Rollback}

abbrev pub no_ticket : ℕ
no_ticket = 0

abbrev pub structure : ℕ
structure = 1

abbrev pub update : ℕ
update = 2

abbrev pub rollback : ℕ
rollback = 3

abbrev pub work_of : Live → ℕ
work_of None = no_ticket
work_of (Structure n) = structure
work_of (Update n) = update
work_of (Rollback n) = rollback

abbrev pub number : Live → ℕ
number None = 0
number (Structure n) = n
number (Update n) = n
number (Rollback n) = n

-- of structure, update and rollback: the ticket is the live one of that kind. Of noTicket, which no report asks for: no ticket is live
-- and the number is 0
unfoldable pub is_live : ℕ → ℕ → Live → Bool
is_live of ticket l = eqb (work_of l) of and eqb (number l) ticket
