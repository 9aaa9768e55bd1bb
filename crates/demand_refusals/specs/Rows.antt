-- The answers of a call as document 01 lists them: rows in its order, each a number with the test under which it is given where no
-- earlier row's test holds. Assumes nothing.
use Rattle.std.specs.Prelude.{ℕ, ◌+◌, Bool, true, false, not, List, [], ◌∷◌, map, eqb}
use Rattle.choice.specs.Pick.{pick, ◌and◌, ◌or◌}

pub record Row : Type 0 where
  pub number : ℕ
  pub test : Bool

infix 68 ◌when◌
abbrev pub ◌when◌ : ℕ → Bool → Row
n when b = record { number = n; test = b }

-- the test of a last row
abbrev pub otherwise : Bool
otherwise = true

-- the row of number n holds, and no earlier one
unfoldable pub given : List Row → ℕ → Bool
given [] n = false
given (row ∷ rows) n = pick row.test (eqb row.number n) (given rows n)

abbrev pub numbers : List Row → List ℕ
numbers rows = map (λ (row : Row). row.number) rows

unfoldable pub among : ℕ → List ℕ → Bool
among n [] = false
among n (m ∷ ms) = eqb m n or among n ms

unfoldable pub distinct : List ℕ → Bool
distinct [] = true
distinct (n ∷ ns) = not (among n ns) and distinct ns

-- how many of the numbers pass the test
unfoldable pub how_many : (ℕ → Bool) → List ℕ → ℕ
how_many test [] = 0
how_many test (n ∷ ns) = pick (test n) (1 + how_many test ns) (how_many test ns)
