-- What an audit writes, after the page on the driver's script: it "asks the plain engine about the first 0, 1, 2 .. events of FILE in turn and
-- writes a line each: how many events, phase, commit allowed (1 or 0), recovery allowed, the due asking .., revision". Assumes nothing.
use Rattle.std.specs.Prelude.{ℕ, List, [], ◌∷◌, Result, Ok, Err}
use Rattle.lines.specs.Lines.{line_text}
use Rattle.record.specs.declared.Opening.{Opening}
use Rattle.input_events.specs.declared.Fault.{Fault}
use Rattle.plain.specs.declared.Question.TheVariants.{Phase, CommitAllowed, RecoveryAllowed, DueAsking, Revision}
use Rattle.plain.specs.Looking.{Finding, asked}
use Rattle.audit_lines.specs.declared.Answers.{Answers}

-- the answer that was found, and 0 where none was
abbrev pub number_of : Finding → ℕ
number_of (Ok number) = number
number_of (Err why) = 0

-- the five questions in their order
abbrev pub answers_after : Opening → List ℕ → ℕ → Answers
answers_after given l n = record {
  phase = number_of (asked Phase given l n);
  commit = number_of (asked CommitAllowed given l n);
  recovery = number_of (asked RecoveryAllowed given l n);
  due = number_of (asked DueAsking given l n);
  revision = number_of (asked Revision given l n);
}

-- "Where event N is bad, the last line is that of the N events before it; where the log .. is refused there is none"
abbrev pub audited_by : Finding → Answers → Result Answers Fault
audited_by (Ok number) answers = Ok answers
audited_by (Err why) answers = Err why

-- of the first n events: the plain engine answers all five questions, or none
unfoldable pub audited : Opening → List ℕ → ℕ → Result Answers Fault
audited given l n = audited_by (asked Phase given l n) (answers_after given l n)

unfoldable pub answers_text : ℕ → Answers → List ℕ
answers_text events a = line_text [] (events ∷ a.phase ∷ a.commit ∷ a.recovery ∷ a.due ∷ a.revision ∷ [])
