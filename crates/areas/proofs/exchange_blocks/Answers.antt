-- `areas::exchange_blocks` meets its contract: each block that is put is what was read of the other area. Assumes nothing.
use Rattle.areas.specs.Blocks.{block_size}
use Rattle.areas.proofs.Blocks.{put_read}
use Rattle.areas.proofs.exchange_blocks.Goals as goal

pub returns : goal.returns
returns c =
    let g = c.args in (
      put_read g.a.now g.b.now g.at block_size c.block_at-y.ensures c.put_block.ensures,
      put_read g.b.now g.a.now g.at block_size c.block_at-x.ensures c.put_block-2.ensures,
    )
