-- What callers use of `long`, `copied` and `exchanged`: a payload is too long exactly if it is over 4,096; what fits is copied, an
-- area's whole length replaces it; and areas of the right size are of one size. Assumes nothing.
use mathlib.Core.Path.{◌≡◌, refl, sym, ap, ◌∙◌}
use mathlib.Core.List.{List, [], ◌∷◌, ◌++◌, append-nil}
use Prim.Native.Nat.{ℕ, ◌≤◌, ◌<◌}
use lib.ListN.{length, drop}
use lib.Seq.{drop-length}
use native.Mathlib.Omega.{arith}
use borrow.Author.Tests.{le-ltb, ltb-true, ltb-false, eq-eqb, eqb-true}
use mathlib.Core.Bool.{true, false}
use Rattle.choice.specs.Pick.{◌and◌}
use Rattle.choice.proofs.Picks.{yes, no}
use Rattle.choice.proofs.Tests.{both, join}
use Rattle.areas.specs.Areas.{area_size, sized, long, copied, exchanged}

module _ (n : ℕ) where
  pub over : long n ≡ true → area_size < n
  unfolding long
  over h = ltb-true _ _ h

  pub within : long n ≡ false → n ≤ area_size
  unfolding long
  within h = ltb-false _ _ h

  pub not_over : n ≤ area_size → long n ≡ false
  unfolding long
  not_over h = le-ltb _ _ h

pub copied_fits : (s d : List ℕ) → length s ≤ length d → copied s d ≡ s ++ drop (length s) d
unfolding copied
copied_fits s d h = sym (no _ (le-ltb _ _ h) refl)

pub copied_whole : (s d : List ℕ) → length s ≡ length d → copied s d ≡ s
copied_whole s d e =
    copied_fits s d (omega arith)
    ∙ ap (λ (k : ℕ). s ++ drop k d) e
    ∙ ap (λ (r : List ℕ). s ++ r) (drop-length d)
    ∙ append-nil s

pub exchanged_whole : (a b : List ℕ) → length b ≡ length a → exchanged a b ≡ b ∷ a ∷ []
unfolding exchanged
exchanged_whole a b e = sym (yes _ (eq-eqb _ _ e) refl)

-- two areas of the right size are of one
pub same_size : (a b : List ℕ) → sized a and sized b ≡ true → length b ≡ length a
unfolding sized
same_size a b h = eqb-true _ _ (both h).1 ∙ sym (eqb-true _ _ (both h).0)

pub same_sizes : (a o x : List ℕ) → sized a and sized o and sized x ≡ true → (length o ≡ length a) × (length a ≡ length x)
same_sizes a o x h = (same_size a o (both h).0, same_size x a (join (both h).1 (both (both h).0).0))
