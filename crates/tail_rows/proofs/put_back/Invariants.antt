-- The loop of `tail_rows::put_back`: after i records the first i are the row's, and the words are as many as they were. Assumes nothing.
use Rattle.std.proofs.Common.{◌≡◌, length, take}
use Rattle.tail_table.specs.Table.{tails_of}
use Rattle.tail_rows.proofs.put_back.Given as goal

abbrev pub invariant-loop-i : goal.invariant-loop-i
invariant-loop-i l = record {
  long : length l.words ≡ length l.initial.words;
  copied : take l.i (tails_of l.words) ≡ take l.i l.row;
}
