-- `lines::put_numbers` meets its contract: to put the numbers that are left stays what it was at the start. Assumes nothing.
use mathlib.Core.Path.{◌≡◌}
use lib.ListN.{drop}
use Rattle.text.specs.Writing.{put_all}
use Rattle.lines.specs.Lines.{numbers_text}
use Rattle.lines.proofs.put_numbers.Given as goal

abbrev pub invariant-loop-number : goal.invariant-loop-number
invariant-loop-number l = put_all l.page (numbers_text l.due (drop l.number-index l.numbers)) ≡ put_all l.initial.page (numbers_text l.first l.numbers)
