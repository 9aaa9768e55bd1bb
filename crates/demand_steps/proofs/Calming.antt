-- What being staged asks of a record, through a step: of its revision v, its count of replacements c, and else. Assumes nothing.
use Prim.Native.Nat.{ℕ, ◌+◌, ◌<◌}
use mathlib.Core.Path.{◌≡◌, refl}
use mathlib.Core.Bool.{Bool, true, false}
use mathlib.Core.Logic.{◌≢◌}
use native.Mathlib.Omega.{arith}
use Rattle.record.specs.Fields.{top}
use Rattle.record.specs.Given.{at}
use Rattle.tickets.specs.declared.Live.{Live}
use Rattle.tickets.specs.declared.Live.TheVariants.{None}
use Rattle.demand_steps.specs.Typed.{Typed}
use Rattle.demand_steps.proofs.Facts.{Calm, tests}
use Rattle.demand_steps.proofs.Facts.Calm.{on, off}

-- a record with something under way is staged
pub busy : {s : Bool} {v c p q n m : ℕ} {l i : Live} → Calm s v c p n l → (p ≡ 0 → n ≡ 0 → l ≡ None → ⊥) → Calm s v c q m i
busy (on e h g) f = on e h g
busy (off e m k z n x) f = absurd (f z n x)

pub room : {s : Bool} {v c p n : ℕ} {l : Live} → Calm s v c p n l → s ≡ true → (v < top) × (c < top)
room (on e h g) i = (h, g)
room (off e m k z n x) i = absurd (omega tests)

pub range : {s : Bool} {v c p n : ℕ} {l : Live} {serial : ℕ} → Calm s v c p n l → Typed (at v serial c)
range (on e h g) = omega arith
range (off e m k z n x) = record { revision = m; replacements = k }

pub quietly : {s : Bool} {v c p q n m : ℕ} {l i : Live} → Calm s v c p n l → (p ≡ 0 → n ≡ 0 → l ≡ None → (q ≡ 0) × (m ≡ 0) × (i ≡ None)) → Calm s v c q m i
quietly (on e h g) f = on e h g
quietly (off e m k z n x) f = let y = f z n x in off e m k y.0 y.1 y.2

pub hush : {s : Bool} {v c p n : ℕ} {l : Live} → Calm s v c p n l → Calm s v c p n None
hush x = quietly x (λ z n l. (z, n, refl))

-- and an idle record's count of replacements is raised
pub raises : {s : Bool} {v c p n : ℕ} {l : Live} → Calm s v c p n l → s ≡ false → c ≢ top → Calm s v (c + 1) p n l
raises (on e h g) i u = absurd (omega tests)
raises (off e m k z n x) i u = off e m (omega arith) z n x
