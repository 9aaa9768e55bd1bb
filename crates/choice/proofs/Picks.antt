-- A value that is a case of nested picks: one step for each test on the way. Assumes nothing.
use mathlib.Core.Path.{◌≡◌, refl, sym, ◌∙◌, ap}
use mathlib.Core.Bool.{Bool, true, false, not}
use Rattle.choice.specs.Pick.{pick}

pub yes : {A : Type 0} {b : Bool} {x z : A} (y : A) → b ≡ true → z ≡ x → z ≡ pick b x y
unfolding pick
yes y h p = simp h p

pub no : {A : Type 0} {b : Bool} {y z : A} (x : A) → b ≡ false → z ≡ y → z ≡ pick b x y
unfolding pick
no x h p = simp h p

-- what holds of both cases of a test, where it says so, holds of the one that it picks
pub picked : {A : Type 0} (P : A → Type 0) {x y : A} (b : Bool) → (b ≡ true → P x) → (b ≡ false → P y) → P (pick b x y)
unfolding pick
picked P true f g = f refl
picked P false f g = g refl

pub each : {A : Type 0} (P : A → Type 0) (b : Bool) {x y : A} → P x → P y → P (pick b x y)
each P b p q = picked P b (λ e. p) (λ e. q)

-- what a callee answered, b, is the definition's d, and was tested
pub told : {b d t : Bool} → b ≡ d → b ≡ t → d ≡ t
told e h = sym e ∙ h

-- the same for a test of its opposite
pub told_not : {b d t : Bool} → b ≡ d → not b ≡ t → not d ≡ t
told_not e h = ap not (sym e) ∙ h
