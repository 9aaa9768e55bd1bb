-- Copying, as areas has it (areas/proofs/Over.antt): a copy from a place on, one that fills an area or is of all there is, and one turn of a
-- copy of numbers or of reading a block. Assumes nothing.
use mathlib.Core.Path.{◌≡◌, refl, sym, ap, subst, ◌∙◌}
use mathlib.Core.List.{List, ◌++◌, append-nil}
use Prim.Native.Nat.{ℕ, ◌+◌, ◌≤◌, ◌<◌}
use native.Mathlib.Omega.{arith}
use lib.ListN.{length, take, drop, get_or, set, length-append, length-drop, take-append-drop}
use lib.Seq.{length-take-le, take_at, take-length, drop-length, get_or-drop}
use Rattle.areas.proofs.Over.{over, Copying, copy_on}

-- one from a place on, of which nothing is done yet: what it will leave is s behind the place and d in front of it
pub copy_from : {A : Type 0} (d s : List A) (at : ℕ) → at ≤ length d → Copying d (over s d at) d at
copy_from d s at h =
    let e = length-take-le at d h in
    record {
      within = omega (arith, e, length-append (take at d) (drop at s));
      front = sym (ap (λ (r : List _). r ++ drop at d) (take_at (take at d) (drop at s) at e) ∙ take-append-drop at d);
      long = refl;
    }

module _ {A : Type 0} {d s : List A} where
  -- one that fills an area of n, and leaves nothing of it
  pub copy_full : {l : List A} {i : ℕ} (n : ℕ) → Copying d s l i → i ≡ n → length d ≡ n → l ≡ take n s
  copy_full n v e f =
      v.front ∙ ap (over d s) e ∙ ap (λ (r : List A). take n s ++ r) (ap (λ (k : ℕ). drop k d) (sym f) ∙ drop-length d) ∙ append-nil (take n s)

  -- and is of all of s
  pub copy_whole : {l : List A} {i : ℕ} → Copying d s l i → i ≡ length s → i ≡ length d → l ≡ s
  copy_whole v e f = copy_full (length s) v e (sym f ∙ e) ∙ take-length s

-- one turn of a copy of numbers
pub copy_more : {d s l : List ℕ} {i : ℕ} → Copying d s l i → i < length s → i < length d → Copying d s (set l i (get_or s i 0)) (i + 1)
copy_more v hs hd = copy_on 0 v hs hd

-- as long as the one that is written over
pub over_long : (d s : List ℕ) (i : ℕ) → i ≤ length s → i ≤ length d → length (over d s i) ≡ length d
over_long d s i hs hd = simp (length-append, length-take-le, length-drop) (omega arith)

-- one turn of reading a block from a place of s on
pub read_more : (s : List ℕ) (at : ℕ) {b l : List ℕ} {j : ℕ} → Copying b (drop at s) l j → at + j < length s → j < length b
    → Copying b (drop at s) (set l j (get_or s (at + j) 0)) (j + 1)
read_more s at {b} {l} {j} v hs hb =
    subst (λ (e : ℕ). Copying b (drop at s) (set l j e) (j + 1)) (get_or-drop at s j 0) (copy_more v (omega (arith, length-drop at s)) hb)
