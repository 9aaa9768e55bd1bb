-- `lines::put_numbers` meets its contract: to put the numbers that are left stays what it was at the start. Assumes nothing.
use mathlib.Core.Path.{sym, ◌∙◌}
use Rattle.lines.proofs.Turns.{number_next, number_end}
use Rattle.lines.proofs.put_numbers.Goals as goal

pub loop-number-preserved : goal.loop-number-preserved
loop-number-preserved c = number_next _ _ _ _ c.loop-number-test.true c.put_space.ensures c.put_decimal.ensures ∙ c.loop-number.invariant

pub returns : goal.returns
returns c = sym (number_end _ _ _ _ c.loop-number-test.false) ∙ c.loop-number.invariant
