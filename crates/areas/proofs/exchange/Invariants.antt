-- `areas::exchange` meets its contract: the first k blocks have changed places, and then the rest. Assumes nothing.
use Prim.Native.Nat.{◌*◌}
use Rattle.areas.specs.Blocks.{block_size}
use Rattle.areas.proofs.Over.{Copying}
use Rattle.areas.proofs.exchange.Given as goal

abbrev pub invariant-loop-k : goal.invariant-loop-k
invariant-loop-k l = Copying l.initial.a l.initial.b l.a (block_size * l.k) × Copying l.initial.b l.initial.a l.b (block_size * l.k)
