-- `matching::fits` meets its contract: to fit what is left of the template stays what it was at the start. Assumes nothing.
use Rattle.std.proofs.Common.{◌∙◌, sym}
use Rattle.matching.proofs.Turns.{ends, fit_end, fit-newline, fit-wrong, fit-some}
use Rattle.matching.proofs.fits.Goals as goal
use Rattle.matching.proofs.fits.Goals.{in-Some-number, in_default-number}

pub returns-then-mark-eq10 : goal.returns-then-mark-eq10
returns-then-mark-eq10 c =
    c.ok_or.ensures.value
    ∙ rw c.then_some.ensures (ends _ _)
    ∙ sym (fit-newline _ _ _ _ _ c.loop-mark-test.true c.if-mark-eq10.true)
    ∙ c.loop-mark.invariant

pub returns-in_default : goal.returns-in_default
returns-in_default c =
    sym (fit-wrong _ _ _ _ _ c.loop-mark-test.true c.if-mark-eq10.false (sym c.take.ensures ∙ c.in_default.is)) ∙ c.loop-mark.invariant

pub loop-mark-preserved : goal.loop-mark-preserved
loop-mark-preserved c =
    let more = fit-some _ _ _ _ _ c.loop-mark-test.true c.if-mark-eq10.false (sym c.in-Some.is ∙ c.take.ensures) ∙ c.loop-mark.invariant in
    elim c.match-taken.branch [
      | in-Some-number w ↦ rw (w.numbers-is, w.at-is, w.keep.ensures) (rw w.in-Some-number.is at more)
      | in_default-number w ↦ rw (w.numbers-is, w.at-is) (rw w.in_default-number.is at more)
    ]

pub returns : goal.returns
returns c = sym (fit_end _ _ _ _ _ c.loop-mark-test.false) ∙ c.loop-mark.invariant
