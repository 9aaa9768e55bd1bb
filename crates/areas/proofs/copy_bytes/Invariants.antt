-- `areas::copy_bytes` meets its contract: the first k parts are copied, and then the rest. Assumes nothing.
use Prim.Native.Nat.{◌*◌}
use Rattle.areas.specs.Blocks.{part_size}
use Rattle.areas.proofs.Over.{Copying}
use Rattle.areas.proofs.copy_bytes.Given as goal

abbrev pub invariant-loop-k : goal.invariant-loop-k
invariant-loop-k l = Copying l.initial.dst l.src l.dst (part_size * l.k)
