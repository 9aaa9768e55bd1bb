-- `batch::store` meets its contract: past the table's end nothing is stored. Assumes nothing.
use mathlib.Core.Path.{refl, sym}
use lib.Seq.{set_out}
use Rattle.batch.specs.Batch.{stored}
use Rattle.batch.proofs.store.Goals as goal

pub returns-then-at-table : goal.returns-then-at-table
unfolding stored
returns-then-at-table c = refl

pub returns-else-at-table : goal.returns-else-at-table
unfolding stored
returns-else-at-table c = sym (set_out _ _ _ c.if-at-table.false)
