-- The clauses of every call on a whole record, gathered. Assumes nothing.
use mathlib.Core.{Path.◌≡◌, Bool.true}
use Rattle.record.specs.{declared.Record.Record, Given.standing}
use Rattle.wholeness.specs.Whole.{whole}
use Rattle.calls.specs.{Calls.Call, Calls.step, Calls.Work.structure, Calls.Work.update, Calls.Work.rollback, Calls.Report.structured, Calls.Report.updated}
use Rattle.calls.specs.{Calls.Report.rolledBack}
use Rattle.calls.specs.Calls.Call.{begin, ask, report, edit, commit, recover, recover_retained, refresh, stamp, check}
use Rattle.clauses.specs.Clauses.{Clauses}
use Rattle.clauses.proofs.{Structures.structure_asked_lem, Structures.structure_reported, Stagings.begin-clauses, Stagings.edit_clauses, Endings.commit_clauses}
use Rattle.clauses.proofs.{Endings.recover-clauses, Endings.recover_retained_clauses, Refreshes.refresh-clauses, Refreshes.stamp_clauses, Refreshes.check_clauses}
use Rattle.clauses.proofs.Polls.{update_asked_lem, update-reported, rollback_asked, rollback-reported}
use Rattle.demand_steps.specs.Typed.{Typed}

pub clauses : (r : Record) → Typed (standing r) → whole r ≡ true → (c : Call) → Clauses r c (step r c)
clauses r m w (begin structural b) = begin-clauses r b m w structural
clauses r m w (ask structure) = structure_asked_lem r m w
clauses r m w (ask update) = update_asked_lem r m w
clauses r m w (ask rollback) = rollback_asked r m w
clauses r m w (report (structured c o) t x) = structure_reported r m w t x c o
clauses r m w (report updated t x) = update-reported r m w t x
clauses r m w (report rolledBack t x) = rollback-reported r m w t x
clauses r m w (edit c o) = edit_clauses r c o m w
clauses r m w commit = commit_clauses r m w
clauses r m w (recover n) = recover-clauses r m w n
clauses r m w recover_retained = recover_retained_clauses r m w
clauses r m w (refresh n) = refresh-clauses r m w n
clauses r m w (stamp domain) = stamp_clauses r m w domain
clauses r m w (check domain s) = check_clauses r m w domain s
