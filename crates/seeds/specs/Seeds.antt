-- The payloads and the words that a script names: the driver's page, "A payload is written `LENGTH:SEED`". Assumes nothing.
use Rattle.std.specs.Prelude.{ℕ, zero, suc, ◌+◌, ◌%◌, ◌^◌, List, [], ◌∷◌}

-- the first `count` elements become those of the seed, of which the one at place i is (seed + i) mod m; those after them stay as they are
unfoldable pub seeded_over : ℕ → ℕ → ℕ → List ℕ → List ℕ
seeded_over m zero seed l = l
seeded_over m (suc count) seed [] = []
seeded_over m (suc count) seed (x ∷ l) = (seed % m) ∷ seeded_over m count (seed + 1) l

-- "byte i is (SEED + i) mod 251"
abbrev pub payload_over : ℕ → ℕ → List ℕ → List ℕ
payload_over = seeded_over 251

-- "word i is SEED + i", as words of 64 bits wrap
abbrev pub words_over : ℕ → ℕ → List ℕ → List ℕ
words_over = seeded_over (2 ^ 64)
