-- `answers::Refusal::is_written` meets its contract: the refusals 4 and 5, and no other. Assumes nothing.
use mathlib.Core.Path.{◌≡◌, refl}
use mathlib.Core.Bool.{false}
use mathlib.Core.Logic.{inl, inr}
use Rattle.choice.specs.Pick.{◌or◌}
use Rattle.answers.specs.Classes.{refusal_written}
use Rattle.answers.specs.declared.Refusal.{Refusal}
use Rattle.answers.specs.declared.Refusal.TheVariants.{NotReady, Recovering}
use Rattle.answers.proofs.Refusal.is_written.Goals as goal

pub returns-in-NotReady : goal.returns-in-NotReady
unfolding refusal_written ◌or◌
returns-in-NotReady c = elim c.in-NotReady.is [
  | inl e ↦ simp e
  | inr e ↦ simp e
]

unwritten : (why : Refusal) → (why ≡ NotReady → ⊥) → (why ≡ Recovering → ⊥) → false ≡ refusal_written why
unfolding refusal_written ◌or◌
unwritten NotReady n r = absurd (n refl)
unwritten Recovering n r = absurd (r refl)
unwritten why n r = refl

pub returns-in_default : goal.returns-in_default
returns-in_default c = unwritten _ c.in_default.not-NotReady c.in_default.not-Recovering
