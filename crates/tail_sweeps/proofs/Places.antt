-- How many records at the front stand before a pair, found one by one. Assumes nothing.
use Prim.Native.Nat.{ℕ, zero, suc, ◌+◌, ◌<◌}
use native.Mathlib.Nat.{le_of_suc-le-suc, not-suc-le-zero}
use native.Mathlib.Numerals.{add-one}
use mathlib.Core.Path.{◌≡◌, refl, sym, ◌∙◌, ap, subst}
use mathlib.Core.Bool.{Bool, true, false}
use mathlib.Core.List.{List, [], ◌∷◌}
use lib.ListN.{length, get_or, take}
use lib.Seq.{get_or-take}
use Rattle.choice.specs.Pick.{pick}
use Rattle.choice.proofs.Tests.{both, join}
use Rattle.tail_table.specs.Table.{tails_of, file_of, used_of, before, zeroes}
use Rattle.tail_table.specs.Sweeping.{ahead, place_of}
use Rattle.tail_table.specs.declared.Tail.{Tail}
use Rattle.tail_table.specs.declared.File.{File}

module _ (f : File) where
  -- one more that does
  ahead_suc : (us : List Tail) (i : ℕ) → i < length us → ahead (take i us) f ≡ true → before (file_of (get_or us i zeroes)) f ≡ true → ahead (take (suc i) us) f ≡ true
  ahead_suc [] i l a b = refl
  ahead_suc (u ∷ us) zero l a b = join b refl
  ahead_suc (u ∷ us) (suc i) l a b = join (both a).0 (ahead_suc us i (le_of_suc-le-suc l) (both a).1 b)

  pub ahead_more : (us : List Tail) (i : ℕ) → i < length us → ahead (take i us) f ≡ true → before (file_of (get_or us i zeroes)) f ≡ true → ahead (take (i + 1) us) f ≡ true
  ahead_more us i l a b = subst (λ (k : ℕ). ahead (take k us) f ≡ true) (sym (add-one i)) (ahead_suc us i l a b)

  -- the first that does not
  pub place_here : (us : List Tail) (i : ℕ) → i < length us → ahead (take i us) f ≡ true → before (file_of (get_or us i zeroes)) f ≡ false → place_of us f ≡ i
  unfolding pick
  place_here [] i l a b = absurd (not-suc-le-zero l)
  place_here (u ∷ us) zero l a b = simp b
  place_here (u ∷ us) (suc i) l a b = let h = (both a).0 in simp h (ap suc (place_here us i (le_of_suc-le-suc l) (both a).1 b))

  -- all of them
  pub place_end : (us : List Tail) → ahead us f ≡ true → place_of us f ≡ length us
  unfolding pick
  place_end [] a = refl
  place_end (u ∷ us) a = let h = (both a).0 in simp h (ap suc (place_end us (both a).1))

  -- record i of the used ones, as it is read: t, its pair u, and whether this stands before
  pub read_so : (words : List ℕ) (used i : ℕ) {t : Tail} {u : File} {b : Bool} → i < used → t ≡ get_or (tails_of words) i zeroes → u ≡ file_of t → b ≡ before u f → before (file_of (get_or (used_of words used) i zeroes)) f ≡ b
  read_so words used i l p q r =
      ap (λ (x : Tail). before (file_of x) f) (get_or-take used (tails_of words) i zeroes l ∙ sym p)
      ∙ ap (λ (x : File). before x f) (sym q)
      ∙ sym r
