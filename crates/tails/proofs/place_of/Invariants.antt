-- `tails::place_of` meets its contract: the records below i stand before the file. Assumes nothing.
use mathlib.Core.Path.{◌≡◌}
use mathlib.Core.Bool.{true}
use lib.ListN.{take}
use Rattle.tail_table.specs.Table.{used_of}
use Rattle.tail_table.specs.Sweeping.{ahead}
use Rattle.tails.proofs.place_of.Given as goal

abbrev pub invariant-loop-i : goal.invariant-loop-i
invariant-loop-i l = ahead (take l.i (used_of l.words l.used)) l.file ≡ true
