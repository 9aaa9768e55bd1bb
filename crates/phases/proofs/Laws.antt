-- What a phase's tests say as facts of its number. Assumes nothing.
use mathlib.Core.Path.{◌≡◌}
use mathlib.Core.Bool.{true}
use Prim.Native.Nat.{ℕ, ◌≤◌}
use Rattle.choice.proofs.Tests.{both, either, tests}
use Rattle.phases.specs.Phases.{has_successor}

-- a phase with a successor is at most 12
pub successor_small : (n : ℕ) → has_successor n ≡ true → n ≤ 12
unfolding has_successor
successor_small n h =
    either h (λ f. either f (λ g. omega (tests, both g)) (λ g. omega tests)) (λ f. omega (tests, both f))
