-- Document 02, request 6: what the record says to each question of the plain engine, and what a replay comes to. Assumes nothing.
use Rattle.std.specs.Prelude.{ℕ, List, [], ◌∷◌, eqb, Ok, Err}
use Rattle.choice.specs.Pick.{pick}
use Rattle.tickets.specs.Live as Live
use Rattle.record.specs.declared.Record.{Record}
use Rattle.calls.specs.Calls.{Call, step}
use Rattle.calls.specs.Calls.Work.{structure, update, rollback}
use Rattle.calls.specs.Calls.Call.{ask, commit, recover_retained}
use Rattle.demand_chains.specs.Plans.{due}
use Rattle.replays.specs.Replaying.{Ending, Standing}
use Rattle.plain.specs.declared.Question.{Question}
use Rattle.plain.specs.declared.Question.TheVariants.{Phase, CommitAllowed, RecoveryAllowed, DueAsking, Revision}
use Rattle.input_events.specs.declared.Fault.TheVariants.{BadEvent, Refused}
use Rattle.plain.specs.declared.Taken.{Taken}
use Rattle.plain.specs.Taking.{takes}
use Rattle.plain.specs.Looking.{Finding}

-- "the due asking (0 none, 1 structure, 2 update, 3 rollback)"; at most one is due
unfoldable pub due_of : Record → ℕ
due_of r =
    pick (due r (ask structure)) Live.structure (pick (due r (ask update)) Live.update (pick (due r (ask rollback)) Live.rollback Live.no_ticket))

-- the record's answers: ""Recovery allowed" means that recovering from the retained payload would answer 0, "commit allowed" that committing
-- would."
unfoldable pub says : Question → Record → ℕ
says Phase r = r.phase.number
says CommitAllowed r = pick (eqb (step r commit).number 0) 1 0
says RecoveryAllowed r = pick (eqb (step r recover_retained).number 0) 1 0
says DueAsking r = due_of r
says Revision r = r.revision

-- what is taken of a list of calls
unfoldable pub takes_all : Taken → List Call → Taken
takes_all t [] = t
takes_all t (c ∷ cs) = takes_all (takes t c) cs

-- the answer of the record that a replay comes to, or how it ended
abbrev pub ended : Question → Record → Ending → Finding
ended q r (Ok u) = Ok (says q r)
ended q r (Err (BadEvent number)) = Err (BadEvent number)
ended q r (Err (Refused why)) = Err (Refused why)

abbrev pub replay_finds : Question → Standing → Finding
replay_finds q s = ended q s.state s.ending
