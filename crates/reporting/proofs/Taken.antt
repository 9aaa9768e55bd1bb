-- What is known of a report that is taken: the record is whole and the ticket is the live one of its kind, so that counts can be
-- raised and lowered; and what it answers is what its outcome asks for. Assumes nothing.
use Prim.Native.Nat.{ℕ, ◌≤◌, ◌<◌}
use mathlib.Core.Path.{◌≡◌, refl, sym, ◌∙◌, ap}
use mathlib.Core.Bool.{Bool, true, false, not}
use mathlib.Core.List.{List, []}
use native.Mathlib.Omega.{arith}
use Rattle.choice.proofs.Tests.{never}
use Rattle.batch.specs.Batch.{limit}
use Rattle.tickets.specs.Live.{is_live, rollback}
use Rattle.record.specs.Answers.{Told}
use Rattle.record.specs.Given.{Effect}
use Rattle.record.specs.declared.Record.{Record}
use Rattle.answers.specs.declared.Refusal.TheVariants.{Stale}
use Rattle.answers.specs.declared.Refusal.{Refusal}
use Rattle.bars.specs.Bars.{Bar, through}
use Rattle.gates.specs.Gates.{gate_of}
use Rattle.gates.proofs.Passing.{Gate}
use Rattle.std.specs.Prelude.{Ok}
use Rattle.wholeness.proofs.Facts.{Parts, counts_of, forward_small, back_small, live_rollback, restoring_all}
use Rattle.gates.proofs.Behind.{behind}
use Rattle.bars.proofs.Passing.{Clear, clear}
use Rattle.gates.proofs.Passing.{fails}
use Rattle.reporting.specs.Reporting.{stale, reported}

holds : {b : Bool} → not b ≡ false → b ≡ true
holds {b = true} h = refl
holds {b = false} h = never h

-- behind the gate g of a report, found open
module _ {g : Gate} (sized sound : Bool) (r : Record) (bs : List (Bar Refusal)) (e : g ≡ through (gate_of sized sound r) bs) (h : g ≡ Ok tt) where
  passes : (gate_of sized sound r ≡ Ok tt) × Clear bs
  passes = clear (gate_of sized sound r) bs (sym e ∙ h)

  tested : Parts r
  tested = behind sized sound r refl passes.0

  -- a structure report's counts can be raised
  pub structure_room : (r.forward ≤ 5) × (r.back ≤ 4)
  structure_room = (forward_small _ _ tested.forward, back_small _ _ tested.back)

  -- an applied count can be raised
  pub update_room : r.applied ≤ limit
  update_room = let c = counts_of _ _ _ tested.counts in omega arith

-- a rollback report has an action to take off
pub rollback_room : {g : Gate} (sized sound : Bool) (r : Record) (ticket : ℕ) → g ≡ through (gate_of sized sound r) (stale rollback ticket r [])
    → g ≡ Ok tt → (0 < r.entries) × (0 < r.attempted)
rollback_room sized sound r ticket e h =
    let bs = stale rollback ticket r [] in
    let t = tested sized sound r bs e h in
    let l : is_live rollback ticket r.live ≡ true = holds (fails bs (passes sized sound r bs e h).1 Stale) in
    let b = live_rollback _ ticket _ _ _ _ _ _ t.live l in
    let k = restoring_all _ _ _ _ _ t.restoring b.0 in
    (b.1, omega arith)

-- a report z of a record x that is the definition's y, where Done does what is done
pub taking : {z t : Told} {x y : Record} (done : Record → Told) (o : Effect) → z ≡ reported o x t → t ≡ done x → x ≡ y → z ≡ reported o y (done y)
taking {x = x} done o p q h = p ∙ ap (reported o x) q ∙ ap (λ (s : Record). reported o s (done s)) h
