-- `phases::Phase::from_number` meets its contract. Assumes nothing.
use mathlib.Core.Path.{refl}
use borrow.Author.Tests.{le-leb, lt-leb}
use Rattle.choice.proofs.Picks.{yes, no}
use Rattle.phases.specs.Phases.{from_number}
use Rattle.phases.proofs.Phase.from_number.Goals as goal

pub returns-then-number-le-RECOVERED : goal.returns-then-number-le-RECOVERED
unfolding from_number
returns-then-number-le-RECOVERED c = yes _ (le-leb _ _ c.if-number-le-RECOVERED.true) refl

pub returns-else-number-le-RECOVERED : goal.returns-else-number-le-RECOVERED
unfolding from_number
returns-else-number-le-RECOVERED c = no _ (lt-leb _ _ c.if-number-le-RECOVERED.false) refl
