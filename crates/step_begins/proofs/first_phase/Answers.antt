-- `step_begins::first_phase` meets its contract. Assumes nothing.
use mathlib.Core.Path.{refl}
use Rattle.choice.proofs.Picks.{yes, no}
use Rattle.step_begins.specs.Beginning.{first_phase}
use Rattle.step_begins.proofs.first_phase.Goals as goal

pub returns-then-structural : goal.returns-then-structural
unfolding first_phase
returns-then-structural c = yes _ c.if-structural.true refl

pub returns-else-structural : goal.returns-else-structural
unfolding first_phase
returns-else-structural c = no _ c.if-structural.false refl
