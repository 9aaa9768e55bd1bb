-- `areas::put_block` meets its contract: after j turns the first j bytes are put. Assumes nothing.
use Rattle.areas.proofs.Blocks.{Putting}
use Rattle.areas.proofs.put_block.Given as goal

abbrev pub invariant-loop-j : goal.invariant-loop-j
invariant-loop-j l = Putting l.initial.dst l.at l.block l.dst l.j
