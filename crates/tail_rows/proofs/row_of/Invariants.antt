-- The loop of `tail_rows::row_of`: after i records the first i of the row are the words'. Assumes nothing.
use Rattle.std.proofs.Common.{◌≡◌, length, take}
use Rattle.tail_table.specs.Table.{tails_of}
use Rattle.tail_rows.proofs.row_of.Given as goal

abbrev pub invariant-loop-i : goal.invariant-loop-i
invariant-loop-i l = record {
  long : length l.row ≡ 256;
  copied : take l.i l.row ≡ take l.i (tails_of l.words);
}
