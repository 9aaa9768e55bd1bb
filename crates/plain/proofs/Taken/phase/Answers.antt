-- `plain::Taken::phase` meets its contract. Assumes nothing.
use mathlib.Core.Path.{refl}
use Rattle.choice.proofs.Picks.{yes, no}
use Rattle.plain.specs.Plain.{phase_of}
use Rattle.plain.proofs.Taken.phase.Goals as goal

pub returns-then-self-2 : goal.returns-then-self-2
unfolding phase_of
returns-then-self-2 c = yes _ c.if-self.true (yes _ c.if-self-2.true c.back_phase.ensures)

pub returns-then-self : goal.returns-then-self
unfolding phase_of
returns-then-self c = yes _ c.if-self.true (no _ c.if-self-2.false c.forward_phase.ensures)

pub returns : goal.returns
unfolding phase_of
returns c = no _ c.if-self.false refl
