-- `tails::put_in` meets its contract: each turn puts down the record in hand and takes up the one that stood there. Assumes nothing.
use Rattle.tail_sweeps.proofs.Entering.{Entering}
use Rattle.tails.proofs.put_in.Given as goal

abbrev pub invariant-loop-i : goal.invariant-loop-i
invariant-loop-i l = Entering l.initial.words l.place l.used l.initial.carried l.words l.carried l.i
