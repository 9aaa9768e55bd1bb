-- `numbers::with_digit` meets its contract: what wraps is past the most. Assumes nothing.
use Rattle.std.proofs.Common.{◌∙◌, arith}
use Rattle.numbers.specs.Reading.{grown}
use Rattle.numbers.proofs.Turns.{is_past}
use Rattle.numbers.proofs.with_digit.Goals as goal

pub returns-in_err-checked_mul : goal.returns-in_err-checked_mul
returns-in_err-checked_mul c = c.from_residual.ensures ∙ is_past _ _ _ (omega (arith, c.in_err-checked_mul.ensures))

pub returns-in_err-more : goal.returns-in_err-more
returns-in_err-more c =
    c.from_residual-in_err-more.ensures ∙ is_past _ _ _ (omega (arith, c.in_ok-checked_mul.ensures, c.in_err-more.ensures))

pub returns : goal.returns
unfolding grown
returns c = c.then_some.ensures ∙ rw (c.in_ok-more.ensures.1, c.in_ok-checked_mul.ensures.1)
