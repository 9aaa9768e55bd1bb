-- The tables of phases, and what a whole record says of its own. Assumes nothing.
use Prim.Native.Nat.{ℕ}
use mathlib.Core.{Path.◌≡◌, Path.refl, Bool.Bool, Bool.true, Bool.false, List.map}
use native.Mathlib.Omega.{arith}
use Rattle.choice.specs.Pick.{pick, ◌and◌, ◌or◌}
use Rattle.phases.specs.Phases.{has_successor, successor, boundary}
use Rattle.record.specs.{declared.Record.Record, Given.standing}
use Rattle.tickets.specs.{declared.Live.Live, declared.Live.TheVariants.None}
use Rattle.wholeness.specs.Whole.{whole}
use Rattle.wholeness.proofs.Facts.{parts}
use Rattle.demand_steps.specs.Typed.{Typed}
use Rattle.demand_steps.proofs.{Facts.Stage, Facts.Calm, Facts.tests, Facts.Calm.on, Facts.Calm.off, Reading.whole_facts, Calming.room}
use Rattle.demand_steps.proofs.Facts.Stage.{flat, flat_back, before, updating, after, undoing, backing}
use Rattle.clauses.specs.Tables.{phases, phase_number, successors, boundaries, Protocol, WellFormed}

pub successor_table : map (λ p. phase_number (successor p)) phases ≡ successors
unfolding successor has_successor pick ◌and◌ ◌or◌
successor_table = refl

pub boundary_table : map boundary phases ≡ boundaries
unfolding boundary ◌or◌
boundary_table = refl

protocol : {p f b n a k : ℕ} {v : Bool} → Stage p f b n a k v → Protocol p f b
protocol (flat x1 x2 x3 x4) = omega arith
protocol (flat_back x1 x2 x3 x4 x5) = omega arith
protocol (before x1 x2 x3 x4 x5 x6) = omega arith
protocol (updating x1 x2 x3 x4 x5) = omega arith
protocol (after x1 x2 x3 x4 x5 x6) = omega arith
protocol (undoing x1 x2 x3 x4 x5 x6 x7) = omega arith
protocol (backing x1 x2 x3 x4 x5 x6 x7) = omega arith

-- not staged
idle : {s : Bool} {v c p n : ℕ} {l : Live} → Calm s v c p n l → s ≡ false → (n ≡ 0) × (p ≡ 0) × (l ≡ None)
idle (on e h g) i = absurd (omega tests)
idle (off e m k z q x) i = (q, z, x)

pub well_formed : (r : Record) → Typed (standing r) → whole r ≡ true → WellFormed r
well_formed r m h =
    let w = whole_facts r m h in
    record {
      c71 = protocol w.stage;
      c72 = (parts h).counts;
      c72_restoring = (parts h).restoring;
      c73 = λ e. (room w.calm e).0;
      c73_replacements = λ e. (room w.calm e).1;
      c74 = λ e. (idle w.calm e).0;
      c75 = λ e. (idle w.calm e).1;
      c75_ticket = λ e. (idle w.calm e).2;
    }
