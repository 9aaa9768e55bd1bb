-- `matching::letter` meets its contract. Assumes nothing.
use Rattle.std.proofs.Common.{◌∙◌}
use Rattle.matching.proofs.Turns.{letter_none, letter_some}
use Rattle.matching.proofs.letter.Goals as goal

pub returns-in_err-place : goal.returns-in_err-place
returns-in_err-place c = c.from_residual.ensures ∙ letter_none _ _ c.in_err-place.ensures

pub returns : goal.returns
returns c = letter_some _ _ _ c.in_ok-place.ensures
