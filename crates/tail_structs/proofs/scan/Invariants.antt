-- The one loop of `tail_structs::scan`: after i records, of those that are looked at, the sweep is what the first i show. Assumes nothing.
use Rattle.std.proofs.Common.{◌≡◌, take}
use Rattle.tail_table.specs.Sweeping.{swept}
use Rattle.tail_structs.proofs.scan.Given as goal

abbrev pub invariant-loop-i : goal.invariant-loop-i
invariant-loop-i l = l.s ≡ swept (take l.i l.tail-items) l.fn.file
