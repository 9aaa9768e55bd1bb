-- `templates::first_fitting` meets its contract: the first that fits of those left stays what it was at the start. Assumes nothing.
use Rattle.std.proofs.Common.{◌≡◌, length, false}
use Rattle.templates.specs.Finding.{first_from, first_fitting}
use Rattle.templates.proofs.first_fitting.Given as goal

abbrev pub invariant-loop-key : goal.invariant-loop-key
invariant-loop-key l = first_from l.line false l.rest ≡ first_fitting l.line l.templates

abbrev pub decreases-loop-key : goal.decreases-loop-key
decreases-loop-key l = length l.rest
