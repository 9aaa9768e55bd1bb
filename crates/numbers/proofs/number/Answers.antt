-- `numbers::number` meets its contract: the answer of the bytes that are left stays what it was at the start. Assumes nothing.
use Rattle.std.proofs.Common.{sym, refl, ◌∙◌, ◌≤◌, length, get_or, arith}
use Rattle.numbers.proofs.Turns.{is_digit-of, at_start, at_end, at_other, at-past, at-digit}
use Rattle.numbers.proofs.number.Goals as goal

pub loop-i-init : goal.loop-i-init
loop-i-init c = (omega arith, at_start _ _ _, λ h. refl)

pub returns-then-not-is_ascii_digit : goal.returns-then-not-is_ascii_digit
returns-then-not-is_ascii_digit c =
    c.then_some.ensures
    ∙ sym (at_other _ _ _ _ _ c.loop-i-test.true (is_digit-of _ c.is_ascii_digit.ensures.value c.if-not-is_ascii_digit.true))
    ∙ c.loop-i.invariant.1

pub returns-in_err-value : goal.returns-in_err-value
returns-in_err-value c =
    let digit = is_digit-of (get_or c.args.line.now c.loop-i.i 0) c.is_ascii_digit.ensures.value c.if-not-is_ascii_digit.false in
    c.from_residual.ensures
    ∙ sym (at-past _ _ _ _ _ c.loop-i-test.true digit (rw (← c.from.ensures) (sym c.in_err-value.ensures)))
    ∙ c.loop-i.invariant.1

pub loop-i-preserved : goal.loop-i-preserved
loop-i-preserved c =
    let digit = is_digit-of (get_or c.args.line.now c.loop-i.i 0) c.is_ascii_digit.ensures.value c.if-not-is_ascii_digit.false in
    let l = c.loop-i in (
      omega arith,
      at-digit _ _ _ _ _ c.loop-i-test.true digit (rw (← c.from.ensures) (sym c.in_ok-value.ensures)) l.invariant.0 ∙ l.invariant.1,
      λ (h : length c.args.line.now ≤ c.args.from). omega arith,
    )

pub returns : goal.returns
returns c =
    c.then_some-2.ensures
    ∙ at_end _ _ _ _ _ refl c.loop-i-test.false c.loop-i.auto.i-end c.loop-i.invariant.2
    ∙ c.loop-i.invariant.1
