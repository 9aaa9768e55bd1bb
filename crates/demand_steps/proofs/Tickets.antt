-- What is known of a whole record whose ticket of a kind is live. Assumes nothing.
use Prim.Native.Nat.{ℕ, zero, suc}
use mathlib.Core.Path.{◌≡◌, refl, ◌∙◌, ap}
use mathlib.Core.Bool.{true, false}
use borrow.Author.Tests.{eqb-true}
use Rattle.choice.proofs.Tests.{both}
use Rattle.tickets.specs.Live.{work_of, number, is_live}
use Rattle.tickets.specs.Live as Tickets
use Rattle.record.specs.declared.Record.{Record}
use Rattle.tickets.specs.declared.Live.{Live}
use Rattle.tickets.specs.declared.Live.TheVariants.{None, Structure, Update, Rollback}
use Rattle.wholeness.proofs.Facts.{Counts}
use Rattle.demand_steps.proofs.Leaf.{Updates}
use Rattle.demand_steps.proofs.Facts as Facts
use Rattle.demand_steps.proofs.Facts.{Whole, Tick, OnStructure, OnUpdate, OnRollback}

-- the live ticket, from its kind and its number
abbrev pub live_at : ℕ → ℕ → Live
live_at zero t = None
live_at (suc zero) t = Structure t
live_at (suc (suc zero)) t = Update t
live_at (suc (suc (suc k))) t = Rollback t

built : (l : Live) → l ≡ live_at (work_of l) (number l)
built None = refl
built (Structure n) = refl
built (Update n) = refl
built (Rollback n) = refl

pub is_live_lem : (k t : ℕ) (l : Live) → is_live k t l ≡ true → l ≡ live_at k t
unfolding is_live
is_live_lem k t l e = let x = both e in built l ∙ ap (λ (n : ℕ). live_at n (number l)) (eqb-true (work_of l) k x.0) ∙ ap (live_at k) (eqb-true (number l) t x.1)

module _ {r : Record} (w : Whole r) {t : ℕ} where
  pub on_structure : is_live Tickets.structure t r.live ≡ true → OnStructure t r.serial r.phase.number
  on_structure e = rw (is_live_lem Tickets.structure t r.live e) at w.ticket

  pub on_update : is_live Tickets.update t r.live ≡ true → OnUpdate t r.serial r.phase.number r.applied r.attempted r.restoring
  on_update e = rw (is_live_lem Tickets.update t r.live e) at w.ticket

  pub on_rollback : is_live Tickets.rollback t r.live ≡ true → OnRollback t r.serial r.entries r.restoring
  on_rollback e = rw (is_live_lem Tickets.rollback t r.live e) at w.ticket

-- no ticket is live where an asking for an update is answered Finished
none_live : (r : Record) (l : Live) → Counts r.entries r.applied r.attempted → Updates r.phase.number → r.restoring ≡ false → r.applied ≡ r.entries →
    Tick l r.serial r.phase.number r.entries r.applied r.attempted r.restoring → l ≡ None
none_live r None s u e h x = refl
none_live r (Structure t) s (Updates.flat y) e h x = absurd (omega (Facts.tests, x.apart))
none_live r (Structure t) s (Updates.batch y) e h x = absurd (omega (Facts.tests, x.apart))
none_live r (Update t) s u e h x = absurd (omega (Facts.tests, s, x))
none_live r (Rollback t) s u e h x = absurd (omega (Facts.tests, x))

pub ended : {r : Record} → Whole r → Updates r.phase.number → r.restoring ≡ false → r.applied ≡ r.entries → r.live ≡ None
ended {r} w u e s = none_live r r.live w.size u e s w.ticket
