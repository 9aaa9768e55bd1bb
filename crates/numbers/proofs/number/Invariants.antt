-- `numbers::number` meets its contract: the answer of the bytes that are left stays what it was at the start. Assumes nothing.
use Rattle.std.proofs.Common.{◌≡◌, ◌≤◌, ltb, length, drop}
use Rattle.numbers.specs.Reading.{number_from, number_at}
use Rattle.numbers.proofs.number.Given as goal

abbrev pub invariant-loop-i : goal.invariant-loop-i
invariant-loop-i l =
    (l.from ≤ l.i) × (number_from l.most l.value (ltb l.from l.i) l.i (drop l.i l.line) ≡ number_at l.line l.from l.most)
    × (length l.line ≤ l.from → l.i ≡ l.from)
