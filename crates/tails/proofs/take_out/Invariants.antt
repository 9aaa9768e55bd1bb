-- `tails::take_out` meets its contract: each turn moves the next record down by one. Assumes nothing.
use Rattle.tail_sweeps.proofs.Leaving.{Leaving}
use Rattle.tails.proofs.take_out.Given as goal

abbrev pub invariant-loop-i : goal.invariant-loop-i
invariant-loop-i l = Leaving l.initial.words l.place l.used l.words l.i
