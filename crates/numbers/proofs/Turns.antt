-- One turn of reading a number, by the byte at its place, and its end. Assumes nothing.
use Rattle.std.proofs.Common.{◌≡◌, refl, sym, ap, ◌∙◌, ℕ, ◌+◌, ◌-◌, ◌≤◌, ◌<◌, Bool, true, false, List, Some, None, length, drop, get_or, leb, ltb, le_refl, add-one, arith, drop-cons}
use borrow.Author.Tests.{ltb-true, ltb-false, lt-leb, lt-ltb, le-ltb}
use Rattle.std.specs.Char.{is_ascii_digit}
use Rattle.choice.specs.Pick.{◌and◌}
use Rattle.choice.proofs.Picks.{yes, no}
use Rattle.choice.proofs.Tests.{test}
use Rattle.std.proofs.lemmas.List.{drop_all}
use Rattle.numbers.specs.Reading.{zero_byte, is_digit, with_digit, grown, ended, number_from, number_at}

-- the library's test of a digit is the definition's
pub is_digit-of : (byte : ℕ) {r b : Bool} → r ≡ is_ascii_digit byte → r ≡ b → is_digit byte ≡ b
unfolding is_digit ◌and◌
is_digit-of byte e h = sym e ∙ h

-- the greater number, past its range
pub is_past : (value digit most : ℕ) → most < with_digit value digit → None ≡ grown value digit most
unfolding grown
is_past value digit most h = rw (lt-leb _ _ h)

-- what `with_digit` answers says whether the number is in its range
pub grown_to : (value digit most : ℕ) {more : ℕ} → grown value digit most ≡ Some more
    → (leb (with_digit value digit) most ≡ true) × (with_digit value digit ≡ more)
unfolding grown
grown_to value digit most h =
    test (leb (with_digit value digit) most) (λ e. let g = rw e at h in (e, cc)) (λ e. let g = rw e at h in (cc, cc))

pub grown_past : (value digit most : ℕ) → grown value digit most ≡ None → leb (with_digit value digit) most ≡ false
unfolding grown
grown_past value digit most h = test (leb (with_digit value digit) most) (λ e. let g = rw e at h in cc) (λ e. e)

pub at_start : (most from : ℕ) (line : List ℕ) → number_from most 0 (ltb from from) from (drop from line) ≡ number_at line from most
at_start most from line = rw (le-ltb from from (le_refl from))

module _ (most value : ℕ) (seen : Bool) (i : ℕ) (line : List ℕ) where
  -- the line ended: at its length, but where it ended before the start
  pub at_end : {from : ℕ} → seen ≡ ltb from i → length line ≤ i → (from ≤ length line → i ≤ length line) → (length line ≤ from → i ≡ from)
      → ended (ltb from (length line)) value (length line) ≡ number_from most value seen i (drop i line)
  unfolding number_from
  at_end {from} s h k l =
      rw (drop_all i line h, s)
      (test (ltb from (length line))
      (λ e. let short = ltb-true _ _ e in let same : i ≡ length line = omega arith in rw same)
      (λ e. let long = ltb-false _ _ e in let none : ltb from i ≡ false = rw (l long) (le-ltb _ _ (le_refl from)) in rw (e, none)))

  module _ (h : i < length line) where
    pub at_other : is_digit (get_or line i 0) ≡ false → number_from most value seen i (drop i line) ≡ ended seen value i
    unfolding number_from
    at_other e = ap (number_from most value seen i) (drop-cons line i 0 h) ∙ sym (no _ e refl)

    pub at-past : is_digit (get_or line i 0) ≡ true → grown value (get_or line i 0 - zero_byte) most ≡ None
        → number_from most value seen i (drop i line) ≡ None
    unfolding number_from
    at-past d g =
        ap (number_from most value seen i) (drop-cons line i 0 h) ∙ sym (yes _ d (no _ (grown_past value _ most g) refl))

    pub at-digit : {more from : ℕ} → is_digit (get_or line i 0) ≡ true → grown value (get_or line i 0 - zero_byte) most ≡ Some more → from ≤ i
        → number_from most more (ltb from (i + 1)) (i + 1) (drop (i + 1) line) ≡ number_from most value seen i (drop i line)
    unfolding number_from
    at-digit {more} {from} d g f =
        let to = grown_to value _ most g in
        let later : from < i + 1 = omega arith in
        rw (lt-ltb from (i + 1) later, ← to.1, add-one i) (yes _ d (yes _ to.0 refl))
        ∙ ap (number_from most value seen i) (sym (drop-cons line i 0 h))
