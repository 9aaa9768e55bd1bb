-- One turn of a digest's loop over numbers, and its end, as digests has them (digests/specs/Digesting.antt). Assumes nothing.
use mathlib.Core.Path.{◌≡◌, sym, ap}
use mathlib.Core.List.{List}
use Prim.Native.Nat.{ℕ, ◌+◌, ◌≤◌, ◌<◌}
use native.Mathlib.Numerals.{add-one}
use lib.ListN.{length, drop, get_or}
use lib.Seq.{drop-cons}
use Rattle.digests.specs.Digesting.{next, digest_from}
use Rattle.named_laws.proofs.Numbers.{drop_past}

module _ (h : ℕ) (l : List ℕ) (i : ℕ) where
  pub digest_next : {k : ℕ} → i < length l → k ≡ next h (get_or l i 0)
      → digest_from (λ v. v) k (drop (i + 1) l) ≡ digest_from (λ v. v) h (drop i l)
  unfolding digest_from
  digest_next r e = rw (e, add-one i) (ap (digest_from (λ v. v) h) (sym (drop-cons l i 0 r)))

  pub digest_end : length l ≤ i → digest_from (λ v. v) h (drop i l) ≡ h
  unfolding digest_from
  digest_end r = ap (digest_from (λ v. v) h) (drop_past i l r)
