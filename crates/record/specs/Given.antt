-- What a call is given and found to be lent, as values: openings, begins, what is found of sizes alone, and what an outcome asks for.
-- Assumes nothing.
use Rattle.std.specs.Prelude.{ℕ, Bool, true, false}
use Rattle.phases.specs.Phases.{none}
use Rattle.record.specs.declared.Record.{Record}
use Rattle.tickets.specs.declared.Live.TheVariants.{None}
use Rattle.record.specs.declared.Opening.{Opening}
use Rattle.record.specs.declared.Beginning.{Beginning}
use Rattle.record.specs.declared.Findings.{Findings}
use Rattle.answers.specs.declared.Answer.{Answer}
use Rattle.answers.specs.declared.Answer.TheVariants as A
use Rattle.record.specs.declared.Outcome.{Outcome}
use Rattle.record.specs.declared.Outcome.TheVariants.{Waiting, Failed, Done}

-- "revision and serial are given"; request 3: the count of replacements, "open takes it"
abbrev pub at : ℕ → ℕ → ℕ → Opening
at revision serial replacements = record { revision = revision; serial = serial; replacements = replacements }

abbrev pub start : Opening
start = at 0 0 0

-- "accepted payload copied, all else as after a commit": idle, counts 0, not restoring, candidate and recovery lengths 0
unfoldable pub opening : Opening → ℕ → Record
opening given accepted = record {
  revision = given.revision;
  serial = given.serial;
  replacements = given.replacements;
  accepted = accepted;
  candidate = 0;
  recovery = 0;
  staged = false;
  phase = record { number = none };
  forward = 0;
  back = 0;
  entries = 0;
  applied = 0;
  attempted = 0;
  restoring = false;
  live = None;
}

-- what an opening is given that goes on from a record
abbrev pub standing : Record → Opening
standing r = at r.revision r.serial r.replacements

-- "both payloads and the pairs", by their lengths and their number
abbrev pub beginning : ℕ → ℕ → ℕ → Beginning
beginning candidate recovery actions = record { candidate = candidate; recovery = recovery; actions = actions }

-- where nothing that is lent is read, all of it is sound
abbrev pub of_sizes : Bool → Findings
of_sizes sized = record { sized = sized; sound = true }

-- "an outcome (Waiting, Failed with a u64 code, Done)": "Waiting and Failed answer 21 and 22 and do nothing else"
pub data Effect : Type 0 where
  rests : Answer → Effect
  works : Effect

abbrev pub effect_of : Outcome → Effect
effect_of Waiting = rests A.Waiting
effect_of (Failed code) = rests (A.Failed code)
effect_of Done = works
