-- Document 01, "What is lent and kept" and "The steps": areas, and what copying and exchanging leave. Assumes nothing.
use Rattle.std.specs.Prelude.{ℕ, Bool, List, [], ◌∷◌, ◌++◌, eqb, ltb, length, drop}
use Rattle.choice.specs.Pick.{pick}

-- "Accepted, candidate, recovery and exchange areas: 4,096 bytes each"
abbrev pub area_size : ℕ
area_size = 4096

unfoldable pub sized : List ℕ → Bool
sized area = eqb (length area) area_size

-- "a payload being the first 0 to 4,096"; too long is "a payload over 4,096"
unfoldable pub long : ℕ → Bool
long n = ltb area_size n

-- "Copying writes only the payload's bytes or the pairs' words"; what does not fit is not copied
unfoldable pub copied : {A : Type 0} → List A → List A → List A
copied payload area = pick (ltb (length area) (length payload)) area (payload ++ drop (length payload) area)

-- "exchanged whole": both areas afterwards; areas of two sizes stay
unfoldable pub exchanged : List ℕ → List ℕ → List (List ℕ)
exchanged a b = pick (eqb (length b) (length a)) (b ∷ a ∷ []) (a ∷ b ∷ [])
