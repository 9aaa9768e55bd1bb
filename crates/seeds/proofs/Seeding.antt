-- One turn of a loop that puts the elements of a seed, and its two ends: what stands before a place is as it is to be, and what is left of
-- the list is still to be seeded. Assumes nothing.
use Rattle.std.proofs.Common.{◌≡◌, ℕ, zero, suc, ◌+◌, ◌-◌, ◌%◌, ◌<◌, ◌≤◌, List, [], ◌++◌, length, take, drop, set, refl, sym, min, leb, append-nil, le_refl, add-one, arith, take-append-drop, take_all, drop-cons, take-suc-set, drop-set-lt}
use lib.Seq.{append_snoc}
use Rattle.std.proofs.lemmas.List.{drop_all}
use borrow.Author.Tests.{leb-true, leb-false}
use Rattle.choice.proofs.Tests.{test}
use Rattle.seeds.specs.Seeds.{seeded_over}

-- a list of which the first i elements are seeded, once all are
abbrev pub seeded_from : ℕ → ℕ → ℕ → ℕ → List ℕ → List ℕ
seeded_from m count seed i l = take i l ++ seeded_over m (count - i) (seed + i) (drop i l)

none : (m count seed : ℕ) → seeded_over m count seed [] ≡ []
unfolding seeded_over
none m zero seed = refl
none m (suc count) seed = refl

module _ (m count seed i : ℕ) (l : List ℕ) where
  pub seed_next : {v : ℕ} → i < length l → i < count → v ≡ (seed + i) % m
      → seeded_from m count seed (i + 1) (set l i v) ≡ seeded_from m count seed i l
  unfolding seeded_over
  seed_next {v} h k e =
      let left : count - i ≡ suc (count - suc i) = omega arith in
      let next : seed + suc i ≡ seed + i + 1 = omega arith in
      rw (add-one i, take-suc-set l i v h, drop-set-lt (suc i) l i v (le_refl _), left, drop-cons l i 0 h, next, e)
      (append_snoc (take i l) ((seed + i) % m) _)

  pub seed_done : count ≤ i → seeded_from m count seed i l ≡ l
  unfolding seeded_over
  seed_done h = let none_left : count - i ≡ 0 = omega arith in rw none_left (take-append-drop i l)

  pub seed_end : length l ≤ i → seeded_from m count seed i l ≡ l
  seed_end h = rw (drop_all i l h, none m (count - i) (seed + i), take_all i l h) (append-nil l)

  -- the loop ends at the last that is to be seeded, or where the list ends
  pub seed_over : min count (length l) ≤ i → l ≡ seeded_from m count seed i l
  seed_over h =
      test (leb count i)
      (λ e. let k : count ≤ i = leb-true _ _ e in sym (seed_done k))
      (λ e. let k = leb-false _ _ e in let end : length l ≤ i = omega arith in sym (seed_end end))

pub seed_start : (m count seed : ℕ) (l : List ℕ) → seeded_from m count seed 0 l ≡ seeded_over m count seed l
seed_start m count seed l =
    let all : count - 0 ≡ count = omega arith in
    let same : seed + 0 ≡ seed = omega arith in
    rw (all, same)
