-- A row of refusals as one test: where one of them holds the call is refused, and where none does it is done. Assumes nothing.
use mathlib.Core.Path.{◌≡◌, refl}
use mathlib.Core.Bool.{Bool, true, false}
use mathlib.Core.List.{List, [], ◌∷◌}
use Rattle.choice.specs.Pick.{pick, ◌or◌}
use Rattle.choice.proofs.Tests.{test}
use Rattle.record.specs.Answers.{Told, refuse}
use Rattle.record.specs.declared.Record.{Record}
use Rattle.answers.specs.declared.Refusal.{Refusal}
use Rattle.bars.specs.Bars.{Bar}
use Rattle.gates.specs.Gates.{barring}
use Rattle.bars.proofs.Passing.{Clear}
use Rattle.gates.proofs.Passing.{Fails, fails}

-- one of them, or one before them
unfoldable pub one_of : Bool → List (Bar Refusal) → Bool
one_of a [] = a
one_of a (b ∷ bs) = one_of (a or b.test) bs

held : (bs : List (Bar Refusal)) → one_of true bs ≡ true
unfolding one_of ◌or◌
held [] = refl
held (b ∷ bs) = held bs

module _ (P : Bool → Told → Type 0) (r : Record) (refuses : (why : Refusal) → P true (refuse why r)) where
  in_row : (bs : List (Bar Refusal)) {done : Told} → (Clear bs → P false done) → P (one_of false bs) (barring bs r done)
  unfolding one_of ◌or◌ pick
  in_row [] f = f refl
  in_row (b ∷ bs) f =
      test b.test
      (λ e. rw (e, held bs) (refuses b.why))
      (λ e. rw e (in_row bs (λ x. f (e, x))))

  pub one_test : (bs : List (Bar Refusal)) {done : Told} (b : Bool) → b ≡ one_of false bs → (Fails bs → P false done) → P b (barring bs r done)
  one_test bs b e f = rw e (in_row bs (λ x. f (fails bs x)))
