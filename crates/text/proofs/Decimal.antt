-- The fewest digits of a number, which `io::decimal` puts, are its decimal text. Assumes nothing.
use mathlib.Core.Path.{◌≡◌, ap, ◌∙◌}
use mathlib.Core.List.{List, [], ◌∷◌, ◌++◌}
use Prim.Native.Nat.{ℕ, zero, suc, ◌+◌, ◌*◌, ◌-◌, ◌/◌, ◌%◌, ◌^◌, ◌≤◌, ◌<◌}
use native.Mathlib.Nat.{pow-suc, one-le-pow, pow-le-pow_right}
use native.Mathlib.Omega.{arith}
use lib.Dec.{leb}
use borrow.Author.Tests.{lt-ltb, le-ltb, leb-true, leb-false}
use Rattle.choice.proofs.Picks.{yes, no}
use Rattle.choice.proofs.Tests.{test}
use Rattle.io.specs.Digits.{hex_digit_ascii, last_digits, IsDigitCount}
use Rattle.numbers.specs.Reading.{zero_byte}
use Rattle.text.specs.Writing.{decimal_within}

glyph_digit : (d : ℕ) → d < 10 → hex_digit_ascii d ≡ zero_byte + d
glyph_digit d h = rw (lt-ltb d 10 h)

less_one : (k : ℕ) → suc k - 1 ≡ k
less_one k = omega arith

module _ (n k : ℕ) (f : IsDigitCount 10 1 n (suc (suc k))) where
  -- a number of two digits or more is no less than the least of so many
  least : 10 ^ k * 10 ≤ n
  least = rw (← pow-suc 10 k) (rw (less_one (suc k)) at (f.2 (omega arith)))

  ten : 10 ≤ n
  ten = omega (arith, least, one-le-pow k 10 (omega arith))

  -- without its last digit it has one less
  shorter : IsDigitCount 10 1 (n / 10) (suc k)
  shorter = (omega arith, omega (arith, f.1, pow-suc 10 (suc k)), λ h. rw (less_one k) (omega (arith, least)))

-- a number below 2^64 has at most twenty digits
pub few : (n k : ℕ) → n < 18446744073709551616 → IsDigitCount 10 1 n k → k ≤ 20
few n k h f =
    test (leb k 20) (λ e. leb-true k 20 e) (λ e.
    let more = leb-false k 20 e in
    let least : 10 ^ 20 ≤ 10 ^ (k - 1) = pow-le-pow_right (omega arith) {i = 20} {j = k - 1} (omega arith) in
    absurd (omega (arith, f.2 (omega arith))))

-- so many digits as a number has are its text, where there may be as many
pub decimal_text : (most k n : ℕ) → k ≤ most → IsDigitCount 10 1 n k → last_digits 10 k n ≡ decimal_within most n
unfolding decimal_within
decimal_text most zero n h f = absurd (omega (arith, f.0))
decimal_text zero (suc k) n h f = absurd (omega arith)
decimal_text (suc most) (suc zero) n h f =
    yes _ (lt-ltb n 10 f.1) (ap (λ (d : ℕ). d ∷ []) (glyph_digit (n % 10) (omega arith) ∙ omega (arith, f.1)))
decimal_text (suc most) (suc (suc k)) n h f =
    no _ (le-ltb n 10 (ten n k f))
    (ap (λ (l : List ℕ). l ++ (hex_digit_ascii (n % 10) ∷ [])) (decimal_text most (suc k) (n / 10) (omega arith) (shorter n k f))
    ∙ ap (λ (d : ℕ). decimal_within most (n / 10) ++ (d ∷ [])) (glyph_digit (n % 10) (omega arith)))
