-- The clauses of each call on a record, gathered: t is what the call tells. Assumes nothing.
use Rattle.record.specs.Answers.{Told}
use Rattle.record.specs.declared.Record.{Record}
use Rattle.calls.specs.Calls.{Call}
use Rattle.calls.specs.Calls.Work.{structure, update, rollback}
use Rattle.calls.specs.Calls.Report.{structured, updated, rolledBack}
use Rattle.calls.specs.Calls.Call.{begin, ask, report, edit, commit, recover, recover_retained, refresh, stamp, check}
use Rattle.clauses.specs.Polls.{UpdateClauses, RollbackClauses}
use Rattle.clauses.specs.Structure.{StructureClauses}
use Rattle.clauses.specs.Staging.{BeginClauses, EditClauses}
use Rattle.clauses.specs.Ending.{CommitClauses, RecoverClauses, RefreshClauses, StampClauses, CheckClauses}

abbrev pub Clauses : Record → Call → Told → Type 0
Clauses r (begin structural b) t = BeginClauses structural r b t
Clauses r (ask structure) t = StructureClauses r t
Clauses r (ask update) t = UpdateClauses r t
Clauses r (ask rollback) t = RollbackClauses r t
Clauses r (report (structured c o) ticket x) t = StructureClauses r t
Clauses r (report updated ticket x) t = UpdateClauses r t
Clauses r (report rolledBack ticket x) t = RollbackClauses r t
Clauses r (edit c o) t = EditClauses r c o t
Clauses r commit t = CommitClauses r t
Clauses r (recover n) t = RecoverClauses r n t
Clauses r recover_retained t = RecoverClauses r r.recovery t
Clauses r (refresh n) t = RefreshClauses r n t
Clauses r (stamp domain) t = StampClauses r domain t
Clauses r (check domain s) t = CheckClauses r domain s t
