-- The parts of a record that a step sets, a group of fields each; a step's effect is composed from these. "What a step does not
-- name stays, the serial too." Assumes nothing.
use Rattle.std.specs.Prelude.{ℕ, Bool, eqb}
use Rattle.choice.specs.Pick.{pick}
use Rattle.phases.specs.Phases.{updates, adopt}
use Rattle.record.specs.declared.Record.{Record}
use Rattle.tickets.specs.declared.Live.{Live}
use Rattle.tickets.specs.declared.Live.TheVariants.{None}

-- the serial and the live ticket
abbrev pub with_ticket : ℕ → Live → Record → Record
with_ticket serial live r = record {
  revision = r.revision;
  serial = serial;
  replacements = r.replacements;
  accepted = r.accepted;
  candidate = r.candidate;
  recovery = r.recovery;
  staged = r.staged;
  phase = r.phase;
  forward = r.forward;
  back = r.back;
  entries = r.entries;
  applied = r.applied;
  attempted = r.attempted;
  restoring = r.restoring;
  live = live;
}

-- the phase, and the counts of structure reports taken
abbrev pub with_place : ℕ → ℕ → ℕ → Record → Record
with_place phase forward back r = record {
  revision = r.revision;
  serial = r.serial;
  replacements = r.replacements;
  accepted = r.accepted;
  candidate = r.candidate;
  recovery = r.recovery;
  staged = r.staged;
  phase = record { number = phase };
  forward = forward;
  back = back;
  entries = r.entries;
  applied = r.applied;
  attempted = r.attempted;
  restoring = r.restoring;
  live = r.live;
}

-- the counts of actions, and which way they go
abbrev pub with_batch : ℕ → ℕ → ℕ → Bool → Record → Record
with_batch entries applied attempted restoring r = record {
  revision = r.revision;
  serial = r.serial;
  replacements = r.replacements;
  accepted = r.accepted;
  candidate = r.candidate;
  recovery = r.recovery;
  staged = r.staged;
  phase = r.phase;
  forward = r.forward;
  back = r.back;
  entries = entries;
  applied = applied;
  attempted = attempted;
  restoring = restoring;
  live = r.live;
}

-- whether a transaction is staged
abbrev pub with_staged : Bool → Record → Record
with_staged staged r = record {
  revision = r.revision;
  serial = r.serial;
  replacements = r.replacements;
  accepted = r.accepted;
  candidate = r.candidate;
  recovery = r.recovery;
  staged = staged;
  phase = r.phase;
  forward = r.forward;
  back = r.back;
  entries = r.entries;
  applied = r.applied;
  attempted = r.attempted;
  restoring = r.restoring;
  live = r.live;
}

-- the lengths of the payloads
abbrev pub with_lengths : ℕ → ℕ → ℕ → Record → Record
with_lengths accepted candidate recovery r = record {
  revision = r.revision;
  serial = r.serial;
  replacements = r.replacements;
  accepted = accepted;
  candidate = candidate;
  recovery = recovery;
  staged = r.staged;
  phase = r.phase;
  forward = r.forward;
  back = r.back;
  entries = r.entries;
  applied = r.applied;
  attempted = r.attempted;
  restoring = r.restoring;
  live = r.live;
}

-- the count of replacements
abbrev pub with_replacements : ℕ → Record → Record
with_replacements replacements r = record {
  revision = r.revision;
  serial = r.serial;
  replacements = replacements;
  accepted = r.accepted;
  candidate = r.candidate;
  recovery = r.recovery;
  staged = r.staged;
  phase = r.phase;
  forward = r.forward;
  back = r.back;
  entries = r.entries;
  applied = r.applied;
  attempted = r.attempted;
  restoring = r.restoring;
  live = r.live;
}

-- the largest u64
abbrev pub top : ℕ
top = 18446744073709551615

-- the live ticket ends
abbrev pub spent : Record → Record
spent r = with_ticket r.serial None r

-- "phase 5 becomes 6"
unfoldable pub adopting : Record → Record
adopting r = with_place (pick (eqb r.phase.number updates) adopt r.phase.number) r.forward r.back r
