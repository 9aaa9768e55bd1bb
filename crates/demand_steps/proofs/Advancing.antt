-- Two ways to a whole record: a structure report that is taken, and the end of a transaction. Assumes nothing.
use Prim.Native.Nat.{ℕ, ◌≤◌, ◌<◌}
use mathlib.Core.Path.{◌≡◌, refl}
use mathlib.Core.Bool.{true}
use native.Mathlib.Omega.{arith}
use Rattle.phases.specs.Phases.{has_successor}
use Rattle.areas.specs.Areas.{area_size}
use Rattle.record.specs.Fields.{spent}
use Rattle.record.specs.declared.Record.{Record}
use Rattle.step_structure.specs.Structure.{advanced, storing}
use Rattle.record.specs.Given.{opening}
use Rattle.record.specs.declared.Opening.{Opening}
use Rattle.demand_steps.specs.Typed.{Typed}
use Rattle.demand_steps.proofs.Leaf.{Apart, Left}
use Rattle.demand_steps.proofs.Facts.{Whole, by_case}
use Rattle.demand_steps.proofs.Facts.Stage.{flat}
use Rattle.demand_steps.proofs.Facts.Calm.{off}
use Rattle.demand_steps.proofs.Testing.{ranges}
use Rattle.demand_steps.proofs.Wholeness.{successor_test}
use Rattle.demand_steps.proofs.Moves.{goes_up, goes_down, in_along, up, down}
use Rattle.demand_steps.proofs.Calming.{busy}

-- a structure report that is taken
pub advances : {r : Record} {new old : ℕ} → Whole r → Apart r.phase.number → Left r r.accepted new old → Whole (advanced (spent (storing new old r)))
advances {r} {new} {old} w y f =
    let q : Record = spent (storing new old r) in
    let s : has_successor r.phase.number ≡ true = successor_test _ (ranges w.stage).bound y in
    by_case 6 r.phase.number
    (λ (h : 6 < r.phase.number). rw (goes_down q s h) record {
      lengths = f w.lengths;
      size = w.size;
      stage = down (in_along w.stage y) h;
      ticket = tt;
      calm = busy w.calm (λ z n i. y.not0 z);
    })
    (λ (h : r.phase.number ≤ 6). rw (goes_up q s h) record {
      lengths = f w.lengths;
      size = w.size;
      stage = up (in_along w.stage y) h w.size.order;
      ticket = tt;
      calm = busy w.calm (λ z n i. y.not0 z);
    })

-- the record of an opening
pub idles : (given : Opening) (a : ℕ) → Typed given → a ≤ area_size → Whole (opening given a)
unfolding opening
idles given a m l = record {
  lengths = record { accepted = l; candidate = omega arith; recovery = omega arith };
  size = omega arith;
  stage = flat refl refl refl refl;
  ticket = tt;
  calm = off refl m.revision m.replacements refl refl refl;
}
