-- What the watcher knows, tied to the record; and how it notes a Done report that is taken. Assumes nothing.
use Prim.Native.Nat.{ℕ, ◌≤◌, ◌<◌}
use mathlib.Core.Path.{◌≡◌, sym, ◌∙◌, ap}
use mathlib.Core.Bool.{Bool, true, false}
use mathlib.Core.List.{[], ◌∷◌, ◌++◌}
use native.Mathlib.Omega.{arith}
use borrow.Author.Tests.{eq-eqb}
use Rattle.choice.specs.Pick.{pick, ◌and◌}
use Rattle.answers.specs.Classes.{StepAnswer, takes}
use Rattle.answers.specs.Classes.Class.{stepping}
use Rattle.answers.specs.Answers.{said}
use Rattle.record.specs.Given.Effect.{works}
use Rattle.record.specs.Fields.{spent}
use Rattle.record.specs.declared.Record.{Record}
use Rattle.step_structure.specs.Structure.{advanced, storing}
use Rattle.calls.specs.Calls.{Report}
use Rattle.calls.specs.Calls.Report.{structured}
use Rattle.demand_steps.specs.Knowing.{Watch, lists}
use Rattle.demand_steps.specs.Watching.{is_for, hears_report}
use Rattle.demand_steps.specs.Knowing.Item.{settle}
use Rattle.demand_steps.proofs.Leaf.{Apart}
use Rattle.demand_steps.proofs.Facts.{Whole, by_case}
use Rattle.demand_steps.proofs.Testing.{ranges}
use Rattle.demand_steps.proofs.Wholeness.{successor_test}
use Rattle.demand_steps.proofs.Moves.{Along, Undo, goes_up, goes_down, in_along}
use Rattle.demand_chains.proofs.Course.{Kind, Last, Course, up, down, same_kind}

pub record Tied (w : Watch) (r : Record) : Type 0 where
  pub running : w.running ≡ r.staged
  pub turning : w.turned ≡ r.restoring
  pub kind : Kind w.structural r.phase.number
  pub last : Last r.live w.ticket w.item r.phase.number r.applied r.entries
  pub course : Course w.structural w.size w.started w.done w.undone r.forward r.back r.entries r.applied r.attempted r.restoring

-- a Done report that is taken, of the last ticket: before and after a rollback was granted
module _ (of : Report) (t : ℕ) (s : StepAnswer) (w : Watch) (h : takes s ≡ true) (e : w.ticket ≡ t) (j : is_for of w.item ≡ true) where
  pub note_ahead : w.turned ≡ false → hears_report of t works (said (stepping s) []) w ≡ lists (w.done ++ (w.item ∷ [])) w.undone w
  unfolding hears_report pick ◌and◌
  note_ahead i = rw (h, eq-eqb t w.ticket (sym e), j, i)

  pub note_behind : w.turned ≡ true → hears_report of t works (said (stepping s) []) w ≡ lists w.done (w.undone ++ (w.item ∷ [])) w
  unfolding hears_report pick ◌and◌
  note_behind i = rw (h, eq-eqb t w.ticket (sym e), j, i)

along_ahead : {p f b n a k : ℕ} {v : Bool} → Along p f b n a k v → p ≤ 6 → v ≡ false
along_ahead (Along.start x1 x2 x3 x4 x5 x6) h = x1
along_ahead (Along.close x1 x2 x3 x4 x5) h = x1
along_ahead (Along.back x1 x2 x3 x4 x5 x6 x7) h = absurd (omega arith)

pub undo_back : {p f b n k : ℕ} → Undo p f b n k → b ≡ 0
undo_back (Undo.plain x1 x2 x3 x4) = x3
undo_back (Undo.inside x1 x2 x3 x4 x5) = x4

-- a structure report that is taken
pub advances : {r : Record} (w : Watch) (s : StepAnswer) (t new old : ℕ) → Whole r → Tied w r → takes s ≡ true → Apart r.phase.number →
    (w.ticket ≡ t) × (w.item ≡ settle r.phase.number) → Tied (hears_report (structured new old) t works (said (stepping s) []) w) (advanced (spent (storing new old r)))
advances {r} w a t new old h d o y q =
    let of : Report = structured new old in
    let s = successor_test r.phase.number (ranges h.stage).bound y in
    let x : Record = spent (storing new old r) in
    let m = in_along h.stage y in
    let j = ap (is_for of) q.1 in
    by_case 6 r.phase.number
    (λ (i : 6 < r.phase.number). rw (goes_down x s i, note_behind of t a w o q.0 j (d.turning ∙ (ranges h.stage).turned.behind (omega (arith, y.not7)))) record {
      running = d.running;
      turning = d.turning;
      kind = same_kind d.kind (λ z. omega arith) (λ z. omega arith);
      last = tt;
      course = down m d.course i q.1;
    })
    (λ (i : r.phase.number ≤ 6). rw (goes_up x s i, note_ahead of t a w o q.0 j (d.turning ∙ along_ahead m i)) record {
      running = d.running;
      turning = d.turning;
      kind = same_kind d.kind (λ z. omega (arith, y.not0)) (λ z. omega arith);
      last = tt;
      course = up m d.kind d.course i h.size.order q.1;
    })
