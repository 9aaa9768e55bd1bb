-- What storing one payload leaves: that payload, every other one, and every identity. Assumes nothing.
use mathlib.Core.Path.{◌≡◌}
use mathlib.Core.Logic.{◌≢◌}
use mathlib.Core.List.{List}
use Prim.Native.Nat.{ℕ, ◌+◌, ◌*◌, ◌<◌}
use native.Mathlib.Omega.{arith}
use lib.ListN.{length}
use lib.Seq.{get_or-set_same, get_or-set_other}
use Rattle.batch.specs.Batch.{stored, identity_at, payload_at}

module _ (t : List ℕ) (i v : ℕ) where
  pub stored_payload : 2 * i + 1 < length t → payload_at (stored i v t) i ≡ v
  unfolding stored
  stored_payload h = get_or-set_same t (2 * i + 1) v 0 h

  pub stored_others : (j : ℕ) → j ≢ i → payload_at (stored i v t) j ≡ payload_at t j
  unfolding stored
  stored_others j n = get_or-set_other t (2 * i + 1) (2 * j + 1) v 0 (λ e. n (omega arith))

  pub stored_identities : (j : ℕ) → identity_at (stored i v t) j ≡ identity_at t j
  unfolding stored
  stored_identities j = get_or-set_other t (2 * i + 1) (2 * j) v 0 (λ e. omega arith)
