-- How definitions test and pick: `pick`, and `and`, `or` and `implies` of tests. They stay shut, so that a proof reads the
-- tests off a goal, and mean what the library's `◌&&◌`, `◌||◌` and `not` say. Assumes nothing.
use Rattle.std.specs.Prelude.{Bool, true, false, ◌&&◌, ◌||◌, not}

infixl 35 ◌and◌
infixl 30 ◌or◌
infixr 25 ◌implies◌
-- where the test holds the first, else the second
unfoldable pub pick : {A : Type 0} → Bool → A → A → A
pick true x y = x
pick false x y = y

unfoldable pub ◌and◌ : Bool → Bool → Bool
a and b = a && b

unfoldable pub ◌or◌ : Bool → Bool → Bool
a or b = a || b

unfoldable pub ◌implies◌ : Bool → Bool → Bool
a implies b = not a || b
