-- `call_reports::report_rollback` meets its contract: the step goes by the table's size. Assumes nothing.
use Rattle.moves.proofs.Sizes.{by-table}
use Rattle.call_reports.proofs.report_rollback.Goals as goal

pub returns : goal.returns
returns c =
    by-table _ _ _ _ _ (rw c.saturating_sub.ensures at c.store.ensures) c.report_rollback-stepped.ensures c.of-found.ensures c.is_sized.ensures
