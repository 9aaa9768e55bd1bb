-- `areas::copy` meets its contract. Assumes nothing.
use Rattle.std.proofs.Common.{refl}
use borrow.Author.Tests.{lt-ltb, le-ltb}
use Rattle.choice.proofs.Picks.{yes, no}
use Rattle.areas.specs.Areas.{copied}
use Rattle.areas.proofs.copy.Goals as goal

pub returns-then-n-dst : goal.returns-then-n-dst
unfolding copied
returns-then-n-dst g c = no _ (le-ltb _ _ c.if-n-dst.true) cc

pub returns-else-n-dst : goal.returns-else-n-dst
unfolding copied
returns-else-n-dst g c = yes _ (lt-ltb _ _ c.if-n-dst.false) refl
