-- `plain::Taken::answer` meets its contract. Assumes nothing.
use mathlib.Core.Path.{◌∙◌, ap}
use mir.Val.{bool_byte}
use Rattle.plain.specs.Plain.{answer_to}
use Rattle.plain.proofs.Bounds.{as_number}
use Rattle.plain.proofs.Taken.answer.Goals as goal

pub returns-in-Phase : goal.returns-in-Phase
unfolding answer_to
returns-in-Phase c = rw c.in-Phase.is c.phase.ensures

pub returns-in-CommitAllowed : goal.returns-in-CommitAllowed
unfolding answer_to
returns-in-CommitAllowed c = rw c.in-CommitAllowed.is (ap bool_byte c.commit_allowed.ensures ∙ as_number _)

pub returns-in-RecoveryAllowed : goal.returns-in-RecoveryAllowed
unfolding answer_to
returns-in-RecoveryAllowed c = rw c.in-RecoveryAllowed.is (ap bool_byte c.recovery_allowed.ensures ∙ as_number _)

pub returns-in-DueAsking : goal.returns-in-DueAsking
unfolding answer_to
returns-in-DueAsking c = rw c.in-DueAsking.is c.due_asking.ensures

pub returns-in-Revision : goal.returns-in-Revision
unfolding answer_to
returns-in-Revision c = rw c.in-Revision.is
