-- Document 01, "The steps": what the three asks say alike of a ticket. Assumes nothing.
use Rattle.std.specs.Prelude.{ℕ, ◌+◌, Bool, eqb}
use Rattle.tickets.specs.Live.{number}
use Rattle.record.specs.Fields.{top, with_ticket}
use Rattle.record.specs.Answers.{Told, answer}
use Rattle.record.specs.declared.Record.{Record}
use Rattle.tickets.specs.declared.Live.{Live}
use Rattle.answers.specs.declared.Answer.TheVariants.{Ticket}

-- "or a ticket: serial plus one, live. Ticket carries it and the phase or the action's number."
abbrev pub issued : Live → ℕ → Record → Told
issued live item r = answer (Ticket (number live) item) (with_ticket (number live) live r)

abbrev pub issue : (ℕ → Live) → ℕ → Record → Told
issue live item r = issued (live (r.serial + 1)) item r

-- "11": "the serial is at its maximum"
abbrev pub worn : Record → Bool
worn r = eqb r.serial top
