-- `matching::fits` meets its contract: to fit what is left of the template stays what it was at the start. Assumes nothing.
use Rattle.std.proofs.Common.{◌≡◌, drop}
use Rattle.matching.specs.Templates.{fits_from, fits_at}
use Rattle.matching.proofs.fits.Given as goal

abbrev pub invariant-loop-mark : goal.invariant-loop-mark
invariant-loop-mark l = fits_from l.line l.numbers l.at (drop l.mark-index l.template) ≡ fits_at l.line l.template
