-- `plain::Taken::back_phase` meets its contract. Assumes nothing.
use mathlib.Core.Path.{refl}
use Rattle.choice.proofs.Picks.{yes, no}
use Rattle.choice.proofs.Tests.{branches}
use Rattle.plain.specs.Plain.{is_left, back_phase}
use Rattle.plain.proofs.Taken.back_phase.Goals as goal

pub returns-then-self : goal.returns-then-self
unfolding back_phase is_left
returns-then-self c = yes _ (search branches) refl

pub returns : goal.returns
unfolding back_phase is_left
returns c = no _ (search branches) refl
