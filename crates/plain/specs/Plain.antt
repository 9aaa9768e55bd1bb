-- Document 02, request 6: what the plain engine finds out of what was taken of a list: no record, no phase that is kept, no step. Its
-- sentences are those of demand 3, and of document 01 on the due asking. Assumes nothing.
use Rattle.std.specs.Prelude.{ℕ, ◌+◌, ◌-◌, Bool, true, not, leb, ltb}
use Rattle.choice.specs.Pick.{pick, ◌and◌, ◌or◌}
use Rattle.plans.specs.Counts as Counts
use Rattle.plans.specs.Counts.{lead, untouched}
use Rattle.phases.specs.Phases.{none, remove, updates, adopt, ready, undo, recover_remove}
use Rattle.tickets.specs.Live.{no_ticket, structure, update, rollback}
use Rattle.plain.specs.declared.Taken.{Taken}
use Rattle.plain.specs.declared.Question.{Question}
use Rattle.plain.specs.declared.Question.TheVariants.{Phase, CommitAllowed, RecoveryAllowed, DueAsking, Revision}

-- all Done reports are taken that there are to be: forward, and back
unfoldable pub is_done : Taken → Bool
is_done t = Counts.is_done t.structural t.size t.done

unfoldable pub is_back : Taken → Bool
is_back t = Counts.is_back t.structural t.started t.undone

-- every update is reported Done
unfoldable pub is_updated : Taken → Bool
is_updated t = leb (lead t.structural + t.size) t.done

-- the updates are over: where there are none, once one was asked for
unfoldable pub is_over : Taken → Bool
is_over t = is_updated t and (t.closed or ltb 0 t.size)

-- an update that was started is not undone
unfoldable pub is_left : Taken → Bool
is_left t = ltb t.undone t.started

-- QUESTION, the phase. Forward: 1 to 4 by the first four reports, 5 until the updates are over, 6 until all are taken, then 7. Back: 8
-- while an undo is left, and 9 to 13 by the reports after the undos
unfoldable pub forward_phase : Taken → ℕ
forward_phase t = pick (ltb t.done (lead true)) (remove + t.done) (pick (is_over t) (pick (is_done t) ready adopt) updates)

unfoldable pub back_phase : Taken → ℕ
back_phase t = pick (is_left t) undo (recover_remove + (t.undone - t.started))

unfoldable pub phase_of : Taken → ℕ
phase_of t = pick t.structural (pick t.turned (back_phase t) (forward_phase t)) none

-- QUESTION, commit allowed: "For a staged transaction of n updates with no rollback granted, commit succeeds exactly after 5 + n Done
-- reports that are taken (n if update-only)"
unfoldable pub commit_allowed : Taken → Bool
commit_allowed t = t.running and not t.turned and is_done t

-- QUESTION, recovery allowed: "After its first granted rollback, with k updates started, recovery from the retained payload succeeds
-- exactly after k + 4 further Done reports that are taken (k if update-only)"; before it, where there is nothing to take back
unfoldable pub recovery_allowed : Taken → Bool
recovery_allowed t = t.running and pick t.turned (is_back t) (untouched t.structural t.size)

-- structure work is to be done: the first four, the last once the updates are over, and on the way back the four after the undos
unfoldable pub is_settling : Taken → Bool
is_settling t =
    t.structural and pick t.turned (not (is_left t) and not (is_back t)) (ltb t.done (lead true) or is_over t and not (is_done t))

-- updates may be asked for
unfoldable pub is_updating : Taken → Bool
is_updating t = not t.turned and (not t.structural or leb (lead true) t.done and not (is_over t))

-- QUESTION, the due asking: "structure in phases with a successor; update in phase 5, or phase 0 not restoring with applied < entries;
-- rollback when restoring with entries > 0"
unfoldable pub due_asking : Taken → ℕ
due_asking t =
    pick (is_settling t) structure
    (pick (is_updating t and (t.structural or not (is_updated t))) update
    (pick (t.turned and is_left t) rollback no_ticket))

-- a question's answer as a number, yes being 1 and no 0
abbrev pub yes_no : Bool → ℕ
yes_no b = pick b 1 0

unfoldable pub answer_to : Question → Taken → ℕ
answer_to Phase t = phase_of t
answer_to CommitAllowed t = yes_no (commit_allowed t)
answer_to RecoveryAllowed t = yes_no (recovery_allowed t)
answer_to DueAsking t = due_asking t
answer_to Revision t = t.revision
