-- `matching::take` meets its contract. Assumes nothing.
use Rattle.std.proofs.Common.{◌∙◌}
use Rattle.matching.proofs.Turns.{take_end, take_letter, take-number, take-same}
use Rattle.matching.proofs.take.Goals as goal

pub returns-in_err-byte : goal.returns-in_err-byte
returns-in_err-byte c = c.from_residual.ensures ∙ take_end _ _ _ c.in_err-byte.ensures.lookup.3

pub returns-then-mark-eq66 : goal.returns-then-mark-eq66
returns-then-mark-eq66 c =
    let there = c.in_ok-byte.ensures.lookup.3 in
    c.letter.ensures ∙ rw (there.1 0) (take_letter _ _ _ there.0 c.if-mark-eq66.true)

pub returns-then-is_ascii_uppercase : goal.returns-then-is_ascii_uppercase
returns-then-is_ascii_uppercase c =
    c.decimal.ensures
    ∙ take-number _ _ _ c.in_ok-byte.ensures.lookup.3.0 c.if-mark-eq66.false c.is_ascii_uppercase.ensures.value c.if-is_ascii_uppercase.true

pub returns : goal.returns
returns c =
    let there = c.in_ok-byte.ensures.lookup.3 in
    c.then_some.ensures
    ∙ rw (there.1 0) (take-same _ _ _ there.0 c.if-mark-eq66.false c.is_ascii_uppercase.ensures.value c.if-is_ascii_uppercase.false)
