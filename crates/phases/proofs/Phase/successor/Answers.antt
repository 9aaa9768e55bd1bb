-- `phases::Phase::successor` meets its contract: a phase with a successor is at most 12, so that the next number fits. Assumes nothing.
use mathlib.Core.Path.{refl}
use native.Mathlib.Omega.{arith}
use Rattle.choice.proofs.Picks.{yes, no, told}
use Rattle.phases.specs.Phases.{successor}
use Rattle.phases.proofs.Laws.{successor_small}
use Rattle.phases.proofs.Phase.successor.Goals as goal

pub overflow_add-result : goal.overflow_add-result
overflow_add-result c = omega (arith, successor_small _ (told c.has_successor.ensures c.if-has_successor.true))

pub returns-then-has_successor : goal.returns-then-has_successor
unfolding successor
returns-then-has_successor c = yes _ (told c.has_successor.ensures c.if-has_successor.true) refl

pub returns-else-has_successor : goal.returns-else-has_successor
unfolding successor
returns-else-has_successor c = no _ (told c.has_successor.ensures c.if-has_successor.false) refl
