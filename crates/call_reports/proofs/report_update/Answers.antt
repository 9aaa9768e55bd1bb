-- `call_reports::report_update` meets its contract: the step goes by the table's size. Assumes nothing.
use Rattle.moves.proofs.Sizes.{by-table}
use Rattle.call_reports.proofs.report_update.Goals as goal

pub returns : goal.returns
returns c = search by-table
