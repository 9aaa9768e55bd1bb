-- `batch::put_pairs` meets its contract: it is the copy. Assumes nothing.
use Rattle.batch.specs.Batch.{pairs_in}
use Rattle.batch.proofs.put_pairs.Goals as goal

pub returns : goal.returns
unfolding pairs_in
returns c = c.copy.ensures
