-- `plain::Taken::due_asking` meets its contract. Assumes nothing.
use mathlib.Core.Path.{refl}
use Rattle.choice.specs.Pick.{◌and◌, ◌or◌}
use Rattle.choice.proofs.Picks.{yes, no, told}
use Rattle.plain.specs.Plain.{due_asking}
use Rattle.plain.proofs.Taken.due_asking.Goals as goal

pub returns-then-is_settling : goal.returns-then-is_settling
unfolding due_asking
returns-then-is_settling c = yes _ (told c.is_settling.ensures c.if-is_settling.true) refl

pub returns-then-is_updating-self : goal.returns-then-is_updating-self
unfolding due_asking ◌and◌ ◌or◌
returns-then-is_updating-self c =
    no _ (told c.is_settling.ensures c.if-is_settling.false)
    (yes _ (rw (← c.is_updating.ensures, ← c.is_updated.ensures) c.if-is_updating-self.true) refl)

pub returns-then-self-is_left : goal.returns-then-self-is_left
unfolding due_asking ◌and◌ ◌or◌
returns-then-self-is_left c =
    no _ (told c.is_settling.ensures c.if-is_settling.false)
    (no _ (rw (← c.is_updating.ensures, ← c.is_updated.ensures) c.if-is_updating-self.false)
    (yes _ (rw (← c.is_left.ensures) c.if-self-is_left.true) refl))

pub returns : goal.returns
unfolding due_asking ◌and◌ ◌or◌
returns c =
    no _ (told c.is_settling.ensures c.if-is_settling.false)
    (no _ (rw (← c.is_updating.ensures, ← c.is_updated.ensures) c.if-is_updating-self.false)
    (no _ (rw (← c.is_left.ensures) c.if-self-is_left.false) refl))
