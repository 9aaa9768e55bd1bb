-- Reading a number, as numbers has it (numbers/specs/Reading.antt): a digit, the greater number in its range, and the end of the line; what
-- is left of a list past its end; and the lesser of two numbers, by a test, as the report of a rollback once had it. Assumes nothing.
use mathlib.Core.Path.{◌≡◌, ap}
use mathlib.Core.Bool.{Bool, true}
use mathlib.Core.List.{List, []}
use Prim.Native.Nat.{ℕ, ◌≤◌, min}
use native.Mathlib.Omega.{arith}
use borrow.Author.Tests.{leb-true, le-leb, ltb-true, ltb-false}
use lib.Dec.{ltb}
use lib.ListN.{length, drop}
use Rattle.std.specs.Prelude.{Some}
use Rattle.std.proofs.lemmas.List.{drop_all}
use Rattle.choice.specs.Pick.{pick}
use Rattle.choice.proofs.Tests.{both, test}
use Rattle.numbers.specs.Reading.{zero_byte, is_digit, with_digit, grown, ended, number_from}

pub drop_past : (n : ℕ) (l : List ℕ) → length l ≤ n → drop n l ≡ []
drop_past n l h = drop_all n l h

-- a digit is no less than `0`
pub at_least : (byte : ℕ) → is_digit byte ≡ true → zero_byte ≤ byte
unfolding is_digit
at_least byte h = leb-true _ _ (both h).0

-- the greater number, in its range
pub is_to : (value digit most : ℕ) → with_digit value digit ≤ most → Some (with_digit value digit) ≡ grown value digit most
unfolding grown
is_to value digit most h = rw (le-leb _ _ h)

-- where the line ends, so does the number
module _ (most value : ℕ) (seen : Bool) (i : ℕ) (line : List ℕ) where
  pub at_end : length line ≤ i → number_from most value seen i (drop i line) ≡ ended seen value i
  unfolding number_from
  at_end h = ap (number_from most value seen i) (drop_past i line h)

-- the lesser by a test is the library's
unfoldable pub least : ℕ → ℕ → ℕ
least a b = pick (ltb a b) a b

pub least_min : (a b : ℕ) → least a b ≡ min a b
unfolding least pick
least_min a b =
    test (ltb a b)
    (λ e. let h = ltb-true a b e in rw e (omega arith))
    (λ e. let h = ltb-false a b e in rw e (omega arith))
