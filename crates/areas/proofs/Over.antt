-- What a loop that copies or exchanges has done when it has come to i: the first i of s over d, whatever the elements are. Assumes nothing.
use mathlib.Core.Path.{◌≡◌, refl, sym, ap, ◌∙◌}
use mathlib.Core.List.{List, ◌++◌}
use Prim.Native.Nat.{ℕ, suc, ◌+◌, ◌-◌, ◌≤◌, ◌<◌}
use native.Mathlib.Nat.{le_of_lt}
use native.Mathlib.Numerals.{add-one}
use native.Mathlib.Omega.{arith}
use lib.ListN.{length, take, drop, get_or, set, length-set}
use lib.Seq.{length-take-le, take-length, take-suc, drop-cons, append_snoc, set_at, get_or-append-add, get_or-drop}

-- d with its first i elements replaced by those of s
abbrev pub over : {A : Type 0} → List A → List A → ℕ → List A
over d s i = take i s ++ drop i d

-- the loop's area l when it has come to i
pub record Copying {A : Type 0} (d s l : List A) (i : ℕ) : Type 0 where
  pub within : i ≤ length s
  pub front : l ≡ over d s i
  pub long : length l ≡ length d

pub copy_none : {A : Type 0} (d s : List A) → Copying d s d 0
copy_none d s = record { within = omega arith; front = refl; long = refl }

module _ {A : Type 0} (z : A) (d s : List A) where
  over_suc : (i : ℕ) → i < length s → i < length d → set (over d s i) i (get_or s i z) ≡ over d s (i + 1)
  over_suc i hs hd =
      ap (λ (r : List A). set (take i s ++ r) i (get_or s i z)) (drop-cons d i z hd)
      ∙ set_at (take i s) (get_or d i z) (drop (suc i) d) (get_or s i z) i (length-take-le i s (le_of_lt hs))
      ∙ sym (append_snoc (take i s) (get_or s i z) (drop (suc i) d))
      ∙ ap (λ (r : List A). r ++ drop (suc i) d) (sym (take-suc s i z hs))
      ∙ ap (λ (k : ℕ). take k s ++ drop k d) (sym (add-one i))

  -- what is not yet written over
  pub over_rest : (i j : ℕ) → i ≤ length s → i ≤ j → get_or (over d s i) j z ≡ get_or d j z
  over_rest i j hs l =
      let e = length-take-le i s hs in
      let n : j ≡ length (take i s) + (j - i) = omega (arith, e, l) in
      ap (λ (k : ℕ). get_or (over d s i) k z) n
      ∙ get_or-append-add (take i s) (drop i d) (j - i) z
      ∙ get_or-drop i d (j - i) z
      ∙ ap (λ (k : ℕ). get_or d k z) (omega (arith, l))

module _ {A : Type 0} {d s : List A} where
  -- one turn of a copy; z stands past the end
  pub copy_on : {l : List A} {i : ℕ} (z : A) → Copying d s l i → i < length s → i < length d → Copying d s (set l i (get_or s i z)) (i + 1)
  copy_on {l} {i} z v hs hd = record {
    within = omega arith;
    front = ap (λ (k : List A). set k i (get_or s i z)) v.front ∙ over_suc z d s i hs hd;
    long = length-set l i (get_or s i z) ∙ v.long;
  }

  -- a copy that is through
  pub copy_all : {l : List A} {i : ℕ} → Copying d s l i → i ≡ length s → l ≡ s ++ drop (length s) d
  copy_all v e = v.front ∙ ap (over d s) e ∙ ap (λ (r : List A). r ++ drop (length s) d) (take-length s)
