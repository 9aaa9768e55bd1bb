-- `areas::put_block` meets its contract: after j turns the first j bytes are put. Assumes nothing.
use native.Mathlib.Omega.{arith}
use Rattle.areas.proofs.Blocks.{put_none, put_more, put_all}
use Rattle.areas.specs.Blocks.{block_size}
use Rattle.areas.proofs.put_block.Goals as goal

pub loop-j-init : goal.loop-j-init
loop-j-init c = put_none _ _ _

pub loop-j-preserved : goal.loop-j-preserved
loop-j-preserved c = put_more c.loop-j.invariant (omega arith) (omega arith)

pub returns : goal.returns
returns c = put_all {n = block_size} c.loop-j.invariant (omega arith)
