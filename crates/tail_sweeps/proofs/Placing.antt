-- Records with one more, with one less, and with another offset, each by the place of its pair. Assumes nothing.
use Prim.Native.Nat.{ℕ, zero, suc, ◌≤◌, ◌<◌}
use native.Mathlib.Nat.{le_of_suc-le-suc, not-suc-le-zero}
use mathlib.Core.Path.{◌≡◌, refl, sym, ap}
use mathlib.Core.Bool.{Bool, true, false}
use mathlib.Core.List.{List, [], ◌∷◌, ◌++◌}
use native.Mathlib.Omega.{arith}
use lib.ListN.{length, get_or, set, take}
use Rattle.choice.specs.Pick.{pick}
use Rattle.choice.proofs.Picks.{picked, each}
use Rattle.choice.proofs.Tests.{both, either, never}
use Rattle.tail_table.specs.Table.{file_of, same, before, ascending, stands, entered, without, with_offset, moved_to, zeroes}
use Rattle.tail_table.specs.Sweeping.{place_of, spot_of, cut}
use Rattle.tail_table.specs.declared.Tail.{Tail}
use Rattle.tail_table.specs.declared.File.{File}
use Rattle.tail_sweeps.proofs.Order.{same_not_before, before_not_same, first_before}

-- the place of a pair is within the records
pub place_within : (us : List Tail) (f : File) → place_of us f ≤ length us
place_within [] f = omega arith
place_within (u ∷ us) f = let h = place_within us f in each (λ (n : ℕ). n ≤ suc (length us)) (before (file_of u) f) (omega (arith, h)) (omega arith)

-- one more: before its place nothing changes, it stands at its place, and behind it are those that stood there
module _ (t : Tail) where
  grown : (b : Bool) (u : Tail) (es us : List Tail) → length es ≡ suc (length us) → length (pick b (u ∷ es) (t ∷ u ∷ us)) ≡ suc (suc (length us))
  unfolding pick
  grown true u es us e = ap suc e
  grown false u es us e = refl

  pub entered_long : (us : List Tail) → length (entered t us) ≡ suc (length us)
  entered_long [] = refl
  entered_long (u ∷ us) = grown (before (file_of u) (file_of t)) u (entered t us) us (entered_long us)

  fronted : (b : Bool) (u : Tail) (es us : List Tail) (k : ℕ) → take k es ≡ take k us → take (pick b (suc k) 0) (pick b (u ∷ es) (t ∷ u ∷ us)) ≡ take (pick b (suc k) 0) (u ∷ us)
  unfolding pick
  fronted true u es us k e = ap (λ (l : List Tail). u ∷ l) e
  fronted false u es us k e = refl

  pub entered_front : (us : List Tail) → take (place_of us (file_of t)) (entered t us) ≡ take (place_of us (file_of t)) us
  entered_front [] = refl
  entered_front (u ∷ us) = fronted (before (file_of u) (file_of t)) u (entered t us) us (place_of us (file_of t)) (entered_front us)

  spotted : (b : Bool) (u : Tail) (es us : List Tail) (k : ℕ) → get_or es k zeroes ≡ t → get_or (pick b (u ∷ es) (t ∷ u ∷ us)) (pick b (suc k) 0) zeroes ≡ t
  unfolding pick
  spotted true u es us k e = e
  spotted false u es us k e = refl

  pub entered_there : (us : List Tail) → get_or (entered t us) (place_of us (file_of t)) zeroes ≡ t
  entered_there [] = refl
  entered_there (u ∷ us) = spotted (before (file_of u) (file_of t)) u (entered t us) us (place_of us (file_of t)) (entered_there us)

  behind : (b : Bool) (u : Tail) (es us : List Tail) (k i : ℕ) → ((j : ℕ) → k ≤ j → get_or es (suc j) zeroes ≡ get_or us j zeroes) → pick b (suc k) 0 ≤ i → get_or (pick b (u ∷ es) (t ∷ u ∷ us)) (suc i) zeroes ≡ get_or (u ∷ us) i zeroes
  unfolding pick
  behind true u es us k zero h l = absurd (not-suc-le-zero l)
  behind true u es us k (suc i) h l = h i (le_of_suc-le-suc l)
  behind false u es us k i h l = refl

  pub entered_behind : (us : List Tail) (i : ℕ) → place_of us (file_of t) ≤ i → get_or (entered t us) (suc i) zeroes ≡ get_or us i zeroes
  entered_behind [] i l = refl
  entered_behind (u ∷ us) i l = behind (before (file_of u) (file_of t)) u (entered t us) us (place_of us (file_of t)) i (entered_behind us) l

-- a pair that stands among records in order is the first one's, or the first stands before it
first_or_later : {P : Type 0} (u : Tail) (us : List Tail) (f : File) → ascending (u ∷ us) ≡ true → stands (u ∷ us) f ≡ true
    → (same (file_of u) f ≡ true → before (file_of u) f ≡ false → P) → (same (file_of u) f ≡ false → before (file_of u) f ≡ true → stands us f ≡ true → P) → P
first_or_later u us f a s p q =
    either s
    (λ e. p e (same_not_before (file_of u) f e))
    (λ e. let b = first_before u us f a e in q (before_not_same (file_of u) f b) b e)

-- one less, by its place: before it nothing changes, and from there on stand those that stood behind
pub cut_long : (us : List Tail) (k : ℕ) → k < length us → suc (length (cut k us)) ≡ length us
cut_long [] k l = absurd (not-suc-le-zero l)
cut_long (u ∷ us) zero l = refl
cut_long (u ∷ us) (suc k) l = ap suc (cut_long us k (le_of_suc-le-suc l))

pub cut_front : (us : List Tail) (k : ℕ) → take k (cut k us) ≡ take k us
cut_front [] k = refl
cut_front (u ∷ us) zero = refl
cut_front (u ∷ us) (suc k) = ap (λ (l : List Tail). u ∷ l) (cut_front us k)

pub cut_behind : (us : List Tail) (k i : ℕ) → k ≤ i → get_or (cut k us) i zeroes ≡ get_or us (suc i) zeroes
cut_behind [] k i l = refl
cut_behind (u ∷ us) zero i l = refl
cut_behind (u ∷ us) (suc k) zero l = absurd (not-suc-le-zero l)
cut_behind (u ∷ us) (suc k) (suc i) l = cut_behind us k i (le_of_suc-le-suc l)

module _ (f : File) where
  pub without_there : (us : List Tail) → ascending us ≡ true → stands us f ≡ true → cut (place_of us f) us ≡ without f us
  unfolding pick
  without_there [] a s = refl
  without_there (u ∷ us) a s = first_or_later u us f a s (λ e b. simp (e, b)) (λ e b r. simp (e, b) (ap (λ (l : List Tail). u ∷ l) (without_there us (both a).1 r)))

  -- a pair that stands among records in order stands at its place
  pub spot_there : (us : List Tail) → ascending us ≡ true → stands us f ≡ true → spot_of us f ≡ place_of us f
  unfolding pick
  spot_there [] a s = refl
  spot_there (u ∷ us) a s = first_or_later u us f a s (λ e b. simp (e, b)) (λ e b r. simp (e, b, r) (ap suc (spot_there us (both a).1 r)))

  pub place_inside : (us : List Tail) → ascending us ≡ true → stands us f ≡ true → place_of us f < length us
  unfolding pick
  place_inside [] a s = never (sym s)
  place_inside (u ∷ us) a s = first_or_later u us f a s (λ e b. simp b (omega arith)) (λ e b r. let h = place_inside us (both a).1 r in simp b (omega (arith, h)))

  -- another offset: it is that of the record at the pair's place
  module _ (offset : ℕ) where
    pub moved-long : (us : List Tail) → length (moved_to offset f us) ≡ length us
    unfolding pick
    moved-long [] = refl
    moved-long (u ∷ us) = picked (λ (l : List Tail). length l ≡ suc (length us)) (same (file_of u) f) (λ e. refl) (λ e. ap suc (moved-long us))

    pub moved-there : (us rest : List Tail) → ascending us ≡ true → stands us f ≡ true → set (us ++ rest) (place_of us f) (with_offset offset (get_or (us ++ rest) (place_of us f) zeroes)) ≡ moved_to offset f us ++ rest
    unfolding pick
    moved-there [] rest a s = never (sym s)
    moved-there (u ∷ us) rest a s = first_or_later u us f a s (λ e b. simp (e, b)) (λ e b r. simp (e, b) (ap (λ (l : List Tail). u ∷ l) (moved-there us rest (both a).1 r)))
