-- Records that are copied one by one, from a table's words to a row and back. Assumes nothing.
use mathlib.Core.Path.{◌≡◌, refl, sym, ◌∙◌, ap}
use Prim.Native.Nat.{ℕ, zero, suc, ◌+◌, ◌<◌, ◌/◌, ◌%◌}
use mathlib.Core.List.{List, [], ◌∷◌, head-eq_of_cons-eq, tail-eq_of_cons-eq}
use native.Mathlib.Nat.{not-suc-le-zero, le_of_suc-le-suc}
use native.Mathlib.Omega.{arith}
use lib.ListN.{length, take, get_or, set, length-set}
use Rattle.tail_table.specs.Table.{tails_of, words_of, zeroes}
use Rattle.tail_table.specs.declared.Tail.{Tail}
use Rattle.tail_sweeps.proofs.Words.{records, words_long, tails_back}

-- where the first i are the same, and the next is copied, one more is
copied : (xs ys : List Tail) (i : ℕ) → i < length xs → i < length ys → take i xs ≡ take i ys → take (suc i) (set xs i (get_or ys i zeroes)) ≡ take (suc i) ys
copied [] ys i h k e = absurd (not-suc-le-zero h)
copied (x ∷ xs) [] i h k e = absurd (not-suc-le-zero k)
copied (x ∷ xs) (y ∷ ys) zero h k e = refl
copied (x ∷ xs) (y ∷ ys) (suc i) h k e = λ j. head-eq_of_cons-eq e j ∷ copied xs ys i (le_of_suc-le-suc h) (le_of_suc-le-suc k) (tail-eq_of_cons-eq e) j

one_more : (i : ℕ) → i + 1 ≡ suc i
one_more i = omega arith

pub copied_on : (xs ys : List Tail) (i : ℕ) {t : Tail} → t ≡ get_or ys i zeroes → i < length xs → i < length ys → take i xs ≡ take i ys → take (i + 1) (set xs i t) ≡ take (i + 1) ys
copied_on xs ys i {t} e h k s = (λ j. take (one_more i j) (set xs i (e j))) ∙ copied xs ys i h k s ∙ ap (λ (m : ℕ). take m ys) (sym (one_more i))

-- a record of the row, put where it stands
pub put_on : (words words' : List ℕ) (row : List Tail) (i : ℕ) {t : Tail} → words' ≡ words_of (set (tails_of words) i t) → t ≡ get_or row i zeroes → length words % 3 ≡ 0 → i < length words / 3 → i < length row → take i (tails_of words) ≡ take i row
    → (length words' ≡ length words) × (take (i + 1) (tails_of words') ≡ take (i + 1) row)
put_on words words' row i {t} w e m h k s =
    let r = records words in
    let n = ap length w ∙ words_long (set (tails_of words) i t) in
    let l = length-set (tails_of words) i t in
    (omega (arith, m, r, n, l), ap (λ (ws : List ℕ). take (i + 1) (tails_of ws)) w ∙ ap (take (i + 1)) (tails_back (set (tails_of words) i t)) ∙ copied_on (tails_of words) row i e (omega (arith, h, r)) k s)

-- all of a list
pub all_taken : (ts : List Tail) → take (length ts) ts ≡ ts
all_taken [] = refl
all_taken (t ∷ ts) = ap (λ (us : List Tail). t ∷ us) (all_taken ts)
