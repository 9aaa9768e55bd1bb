-- `tails::sweep` meets its contract: after i records the sweep is that of the first i. Assumes nothing.
use mathlib.Core.Path.{◌≡◌}
use lib.ListN.{take}
use Rattle.tail_table.specs.Table.{tails_of}
use Rattle.tail_table.specs.Sweeping.{swept}
use Rattle.tails.proofs.sweep.Given as goal

abbrev pub invariant-loop-i : goal.invariant-loop-i
invariant-loop-i l = l.s ≡ swept (take l.i (tails_of l.words)) l.fn.file
