-- Flat words and records: each is the other's, and how many there are. Assumes nothing.
use Prim.Native.Nat.{ℕ, zero, suc, ◌+◌, ◌*◌, ◌/◌, ◌%◌, ◌<◌, ◌≤◌}
use mathlib.Core.Path.{◌≡◌, refl, sym, ◌∙◌, ap}
use mathlib.Core.List.{List, [], ◌∷◌}
use native.Mathlib.Omega.{arith}
use mathlib.Core.Logic.{◌≢◌}
use lib.ListN.{length, get_or, set, get_or-eq_default}
use lib.Seq.{set_out}
use borrow.Author.Tests.{eq-eqb, ne_eqb}
use Rattle.choice.proofs.Picks.{yes, no}
use Rattle.tail_table.specs.Table.{tail_of, tails_of, words_of, with_offset, record_put, zeroes}
use Rattle.tail_table.specs.declared.Tail.{Tail}

pub tails_back : (ts : List Tail) → tails_of (words_of ts) ≡ ts
tails_back [] = refl
tails_back (t ∷ ts) = ap (λ (us : List Tail). t ∷ us) (tails_back ts)

pub words_long : (ts : List Tail) → length (words_of ts) ≡ length ts * 3
words_long [] = refl
words_long (t ∷ ts) = let h = words_long ts in omega (arith, h)

-- so many records have so many words, and some may be left over
pub records : (words : List ℕ) → length (tails_of words) ≡ length words / 3
records [] = omega arith
records (device ∷ []) = omega arith
records (device ∷ inode ∷ []) = omega arith
records (device ∷ inode ∷ offset ∷ more) = let h = records more in omega (arith, h)

-- words that are a multiple of three are their records' words
pub words_back : (words : List ℕ) → length words % 3 ≡ 0 → words_of (tails_of words) ≡ words
words_back [] e = refl
words_back (device ∷ []) e = absurd (omega (arith, e))
words_back (device ∷ inode ∷ []) e = absurd (omega (arith, e))
words_back (device ∷ inode ∷ offset ∷ more) e = ap (λ (ws : List ℕ). device ∷ inode ∷ offset ∷ ws) (words_back more (omega (arith, e)))

-- word k of a record is three further for the next
three_on : (i k : ℕ) → suc i * 3 + k ≡ suc (suc (suc (i * 3 + k)))
three_on i k = omega arith

at_first : (i : ℕ) → i * 3 ≡ i * 3 + 0
at_first i = omega arith

further : (x y z : ℕ) (l : List ℕ) (i k : ℕ) → get_or (x ∷ y ∷ z ∷ l) (suc i * 3 + k) 0 ≡ get_or l (i * 3 + k) 0
further x y z l i k = ap (λ (j : ℕ). get_or (x ∷ y ∷ z ∷ l) j 0) (three_on i k)

set_further : (x y z : ℕ) (l : List ℕ) (i k v : ℕ) → set (x ∷ y ∷ z ∷ l) (suc i * 3 + k) v ≡ x ∷ y ∷ z ∷ set l (i * 3 + k) v
set_further x y z l i k v = ap (λ (j : ℕ). set (x ∷ y ∷ z ∷ l) j v) (three_on i k)

-- a record is read where its words are
read_from : (l : List ℕ) (i : ℕ) → i * 3 + 2 < length l → tail_of (get_or l (i * 3 + 0) 0) (get_or l (i * 3 + 1) 0) (get_or l (i * 3 + 2) 0) ≡ get_or (tails_of l) i zeroes
read_from [] i h = absurd (omega (arith, h))
read_from (x ∷ []) i h = absurd (omega (arith, h))
read_from (x ∷ y ∷ []) i h = absurd (omega (arith, h))
read_from (x ∷ y ∷ z ∷ l) zero h = refl
read_from (x ∷ y ∷ z ∷ l) (suc i) h = (λ j. tail_of (further x y z l i 0 j) (further x y z l i 1 j) (further x y z l i 2 j)) ∙ read_from l i (omega (arith, h))

pub tail_there : (l : List ℕ) (i : ℕ) → i * 3 + 2 < length l → tail_of (get_or l (i * 3) 0) (get_or l (i * 3 + 1) 0) (get_or l (i * 3 + 2) 0) ≡ get_or (tails_of l) i zeroes
tail_there l i h = ap (λ (k : ℕ). tail_of (get_or l k 0) (get_or l (i * 3 + 1) 0) (get_or l (i * 3 + 2) 0)) (at_first i) ∙ read_from l i h

-- and it is put there
put_from : (l : List ℕ) (i : ℕ) (t : Tail) → length l % 3 ≡ 0 → i * 3 + 2 < length l → set (set (set l (i * 3 + 0) t.device) (i * 3 + 1) t.inode) (i * 3 + 2) t.offset ≡ words_of (set (tails_of l) i t)
put_from [] i t e h = absurd (omega (arith, h))
put_from (x ∷ []) i t e h = absurd (omega (arith, h))
put_from (x ∷ y ∷ []) i t e h = absurd (omega (arith, h))
put_from (x ∷ y ∷ z ∷ l) zero t e h = ap (λ (m : List ℕ). t.device ∷ t.inode ∷ t.offset ∷ m) (sym (words_back l (omega (arith, e))))
put_from (x ∷ y ∷ z ∷ l) (suc i) t e h =
    ap (λ (m : List ℕ). set (set m (suc i * 3 + 1) t.inode) (suc i * 3 + 2) t.offset) (set_further x y z l i 0 t.device)
    ∙ ap (λ (m : List ℕ). set m (suc i * 3 + 2) t.offset) (set_further x y z (set l (i * 3 + 0) t.device) i 1 t.inode)
    ∙ set_further x y z (set (set l (i * 3 + 0) t.device) (i * 3 + 1) t.inode) i 2 t.offset
    ∙ ap (λ (m : List ℕ). x ∷ y ∷ z ∷ m) (put_from l i t (omega (arith, e)) (omega (arith, h)))

put_there : (l : List ℕ) (i : ℕ) (t : Tail) → length l % 3 ≡ 0 → i * 3 + 2 < length l → set (set (set l (i * 3) t.device) (i * 3 + 1) t.inode) (i * 3 + 2) t.offset ≡ words_of (set (tails_of l) i t)
put_there l i t e h = ap (λ (k : ℕ). set (set (set l k t.device) (i * 3 + 1) t.inode) (i * 3 + 2) t.offset) (at_first i) ∙ put_from l i t e h

-- and its offset alone
pub offset_there : (l : List ℕ) (i offset : ℕ) → length l % 3 ≡ 0 → i * 3 + 2 < length l → set l (i * 3 + 2) offset ≡ words_of (set (tails_of l) i (with_offset offset (get_or (tails_of l) i zeroes)))
offset_there [] i offset e h = absurd (omega (arith, h))
offset_there (x ∷ []) i offset e h = absurd (omega (arith, h))
offset_there (x ∷ y ∷ []) i offset e h = absurd (omega (arith, h))
offset_there (x ∷ y ∷ z ∷ l) zero offset e h = ap (λ (m : List ℕ). x ∷ y ∷ offset ∷ m) (sym (words_back l (omega (arith, e))))
offset_there (x ∷ y ∷ z ∷ l) (suc i) offset e h =
    set_further x y z l i 2 offset
    ∙ ap (λ (m : List ℕ). x ∷ y ∷ z ∷ m) (offset_there l i offset (omega (arith, e)) (omega (arith, h)))

-- past the end
pub none_there : (l : List ℕ) (i : ℕ) → length l / 3 ≤ i → zeroes ≡ get_or (tails_of l) i zeroes
none_there l i h = let r = records l in sym (get_or-eq_default (tails_of l) zeroes (omega (arith, r, h)))

-- so a record is put as the definition says, whatever the words and the place are
pub put_no_records : (l : List ℕ) (i : ℕ) (t : Tail) → length l % 3 ≢ 0 → l ≡ record_put i t l
unfolding record_put
put_no_records l i t n = no _ (ne_eqb (length l % 3) 0 n) refl

pub put_past : (l : List ℕ) (i : ℕ) (t : Tail) → length l % 3 ≡ 0 → length l / 3 ≤ i → l ≡ record_put i t l
unfolding record_put
put_past l i t e h =
    let r = records l in
    yes _ (eq-eqb (length l % 3) 0 e) (sym (ap words_of (set_out (tails_of l) i t (omega (arith, r, h))) ∙ words_back l e))

pub put_in_place : (l : List ℕ) (i : ℕ) (t : Tail) → length l % 3 ≡ 0 → i < length l / 3 → set (set (set l (i * 3) t.device) (i * 3 + 1) t.inode) (i * 3 + 2) t.offset ≡ record_put i t l
unfolding record_put
put_in_place l i t e h = yes _ (eq-eqb (length l % 3) 0 e) (put_there l i t e (omega (arith, e, h)))

-- and read as records again
pub put_so : {w' : List ℕ} (w : List ℕ) (i : ℕ) (t : Tail) → length w % 3 ≡ 0 → w' ≡ record_put i t w → w' ≡ words_of (set (tails_of w) i t)
unfolding record_put
put_so w i t e p = p ∙ sym (yes _ (eq-eqb (length w % 3) 0 e) refl)
