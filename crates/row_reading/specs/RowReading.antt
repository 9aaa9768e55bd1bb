-- The record whose numbers a row has. The order and the ranges are those of the driver's page, "record R S A C V G P F B N D T E K M",
-- with request 3's count at its end. Assumes nothing.
use Rattle.std.specs.Prelude.{ℕ, Bool, not, List, leb, eqb, length, get_or, Option, Some, None}
use Rattle.choice.specs.Pick.{pick, ◌and◌, ◌or◌}
use Rattle.tickets.specs.Live.{structure, update, rollback, no_ticket}
use Rattle.record.specs.declared.Record.{Record}
use Rattle.tickets.specs.declared.Live.{Live}
use Rattle.tickets.specs.declared.Live.TheVariants as Ticket
use Rattle.rows.specs.Rows.{top8, top32, fields}

abbrev pub at : List ℕ → ℕ → ℕ
at row i = get_or row i 0

-- no number is past its field: "staged (0 or 1)", "restoring (0 or 1)", "kind 0 takes number 0 only"
unfoldable pub in_ranges : List ℕ → Bool
in_ranges row =
    leb (at row 5) 1 and leb (at row 6) top8 and leb (at row 7) top8 and leb (at row 8) top8
    and leb (at row 9) top32 and leb (at row 10) top32 and leb (at row 11) top32
    and leb (at row 12) 1 and leb (at row 13) rollback and (not (eqb (at row 13) no_ticket) or eqb (at row 14) 0)

unfoldable pub live_of : ℕ → ℕ → Live
live_of work n =
    pick (eqb work structure) (Ticket.Structure n) (pick (eqb work update) (Ticket.Update n) (pick (eqb work rollback) (Ticket.Rollback n) Ticket.None))

-- the record of a row whose numbers are in their ranges
abbrev pub made : List ℕ → Record
made row = record {
  revision = at row 0;
  serial = at row 1;
  accepted = at row 2;
  candidate = at row 3;
  recovery = at row 4;
  staged = eqb (at row 5) 1;
  phase = record { number = at row 6 };
  forward = at row 7;
  back = at row 8;
  entries = at row 9;
  applied = at row 10;
  attempted = at row 11;
  restoring = eqb (at row 12) 1;
  live = live_of (at row 13) (at row 14);
  replacements = at row 15;
}

-- a row has as many numbers as a record has fields
unfoldable pub record_of : List ℕ → Option Record
record_of row = pick (eqb (length row) fields and in_ranges row) (Some (made row)) None
