-- `plain::Taken::forward_phase` meets its contract. Assumes nothing.
use mathlib.Core.Path.{refl}
use Rattle.choice.proofs.Picks.{yes, no, told}
use Rattle.choice.proofs.Tests.{branches}
use Rattle.plain.specs.Plain.{forward_phase}
use Rattle.plain.proofs.Taken.forward_phase.Goals as goal

pub returns-then-self-lt-LEAD : goal.returns-then-self-lt-LEAD
unfolding forward_phase
returns-then-self-lt-LEAD c = yes _ (search branches) refl

pub returns-then-is_done : goal.returns-then-is_done
unfolding forward_phase
returns-then-is_done c =
    no _ (search branches)
    (yes _ (told c.is_over.ensures c.if-is_over.true) (yes _ (told c.is_done.ensures c.if-is_done.true) refl))

pub returns-then-is_over : goal.returns-then-is_over
unfolding forward_phase
returns-then-is_over c =
    no _ (search branches)
    (yes _ (told c.is_over.ensures c.if-is_over.true) (no _ (told c.is_done.ensures c.if-is_done.false) refl))

pub returns : goal.returns
unfolding forward_phase
returns c = no _ (search branches) (no _ (told c.is_over.ensures c.if-is_over.false) refl)
