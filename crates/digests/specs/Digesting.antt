-- The digest of a list: the driver's page, "h starts at 0 and becomes (h * 31 + v mod 4294967291 + 1) mod 4294967291 for each
-- element v in turn". Assumes nothing.
use Rattle.std.specs.Prelude.{ℕ, ◌+◌, ◌*◌, ◌%◌, List, [], ◌∷◌}

abbrev pub modulus : ℕ
modulus = 4294967291

-- what h becomes for an element v
abbrev pub next : ℕ → ℕ → ℕ
next h v = (h * 31 + v % modulus + 1) % modulus

-- what h is after the elements that are left, of which each has a value
unfoldable pub digest_from : {A : Type 0} → (A → ℕ) → ℕ → List A → ℕ
digest_from value h [] = h
digest_from value h (v ∷ rest) = digest_from value (next h (value v)) rest

abbrev pub digest_by : {A : Type 0} → (A → ℕ) → List A → ℕ
digest_by value l = digest_from value 0 l

abbrev pub digest_of : List ℕ → ℕ
digest_of l = digest_by (λ v. v) l
