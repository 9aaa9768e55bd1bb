-- What the watcher knows ties to the record, and stays tied through every call. Assumes nothing.
use Prim.Native.Nat.{ℕ, ◌-◌, ◌≤◌, ◌<◌}
use mathlib.Core.Path.{◌≡◌, refl, sym, ◌∙◌, ap}
use mathlib.Core.Bool.{Bool, true, false}
use native.Mathlib.Omega.{arith}
use lib.Dec.{eqb, leb}
use borrow.Author.Tests.{eqb-true}
use Rattle.choice.specs.Pick.{pick, ◌and◌}
use Rattle.choice.proofs.Tests.{test, eqb_ne}
use Rattle.record.specs.Answers.{Told, said_of}
use Rattle.tickets.specs.Live as Tickets
use Rattle.record.specs.Fields.{adopting}
use Rattle.record.specs.declared.Record.{Record}
use Rattle.step_begins.specs.Beginning.{first_phase, begun}
use Rattle.step_rollbacks.specs.Rollbacks.{turned}
use Rattle.record.specs.Given.{opening}
use Rattle.calls.specs.Calls.{Call}
use Rattle.calls.specs.Calls.Report.{updated, rolledBack}
use Rattle.demand_steps.specs.Knowing.{Watch}
use Rattle.demand_steps.specs.Watching.{is_for, sees}
use Rattle.demand_steps.specs.Knowing.Item.{apply, undo}
use Rattle.demand_steps.proofs.Leaf.{Goes, Leaf}
use Rattle.demand_steps.proofs.Leaf.Goes.{last, more}
use Rattle.demand_steps.proofs.Leaf.Leaf.{kept, began, structure_asked, update_ended, update_asked, rollback_ended, turned_empty, turned_asked, waited, went, update_taken, undo_taken, committed, recovered, restored, refreshed}
use Rattle.demand_steps.proofs.Facts.{Whole, tests, by_case}
use Rattle.demand_steps.proofs.Testing.{ranges}
use Rattle.demand_steps.proofs.Moves as M
use Rattle.demand_steps.proofs.Moves.{choice, in_batch, in_undo}
use Rattle.demand_steps.proofs.Tickets.{is_live_lem, on_structure, on_update, on_rollback, ended}
use Rattle.demand_chains.proofs.Course.{Kind, started, turn, lower, raise, same_kind}
use Rattle.demand_chains.proofs.Course.Kind.{update_only, structural}
use Rattle.demand_chains.proofs.Course.Course.{ahead}
use Rattle.demand_chains.proofs.Noting.{Tied, note_ahead, note_behind, undo_back, advances}

-- the kind of transaction stays while the phase moves
goes : {s : Bool} {i n x y p q : ℕ} → 0 < x → 0 < y → Goes i n x y p q → Kind s p → Kind s q
goes h j (more e) k = k
goes {x = x} {y = y} {p = p} h j (last e) k = let c = choice p x y p in
    same_kind k (λ z. c.isnt (omega arith) ∙ z) (λ z. test (eqb p x) (λ d. omega (tests, c.is (eqb-true _ _ d))) (λ d. omega (tests, c.isnt (eqb_ne _ _ d))))

turns : {s : Bool} (p to : ℕ) → 1 ≤ to → Kind s p → Kind s (pick (leb 1 p and leb p 7) to p)
turns p to m k = let c = M.turn p to in same_kind k (λ z. c.flat z) (λ z. by_case p 8 (λ (y : p < 8). omega (arith, c.goes z (omega arith))) (λ (y : 8 ≤ p). omega (arith, c.stays y)))

first : (structural : Bool) → Kind structural (first_phase structural)
unfolding first_phase pick
first true = structural refl (omega arith)
first false = update_only refl refl

pub tie : {r : Record} {c : Call} {x : Told} (w : Watch) → Whole r → Tied w r → Leaf r c x → Tied (sees w c (said_of x)) x.state
unfolding sees begun turned adopting opening pick
tie w h d (kept u f) = rw (u w) record { running = d.running; turning = d.turning; kind = d.kind; last = d.last; course = d.course }
tie w h d (began {structural = s} i l k f m) = record { running = refl; turning = refl; kind = first s; last = tt; course = ahead refl refl refl refl refl }
tie w h d (structure_asked y) = record { running = d.running; turning = d.turning; kind = d.kind; last = (refl, refl); course = d.course }
tie w h d (update_ended u e s) = record {
  running = d.running;
  turning = d.turning;
  kind = goes (omega arith) (omega arith) (last s) d.kind;
  last = rw (ended h u e s) tt;
  course = d.course;
}
tie w h d (update_asked u e n) = record { running = d.running; turning = d.turning; kind = d.kind; last = (refl, refl); course = started d.course e h.size.near }
tie w h d (rollback_ended p) = record { running = d.running; turning = sym ((ranges h.stage).turned.behind (omega arith)); kind = d.kind; last = d.last; course = d.course }
tie {r} w h d (turned_empty p n) = record {
  running = d.running;
  turning = refl;
  kind = turns r.phase.number 9 (omega arith) d.kind;
  last = tt;
  course = turn d.course ((ranges h.stage).behind.early p) (ranges h.stage).turned.all;
}
tie {r} w h d (turned_asked p n) = record {
  running = d.running;
  turning = refl;
  kind = turns r.phase.number 8 (omega arith) d.kind;
  last = (refl, refl);
  course = turn d.course ((ranges h.stage).behind.early p) (ranges h.stage).turned.all;
}
tie w h d (waited u f) = rw (u w) record { running = d.running; turning = d.turning; kind = d.kind; last = tt; course = d.course }
tie {r} w h d (went {t = t} {n = new} {o = old} {s = a} o l f) =
    advances w a t new old h d o (on_structure h l).apart (rw (is_live_lem Tickets.structure t r.live l) at d.last)
tie {r} w h d (update_taken {t = t} {s = a} o l g) =
    let y = on_update h l in
    let q : (w.ticket ≡ t) × (w.item ≡ apply r.applied) = rw (is_live_lem Tickets.update t r.live l) at d.last in
    rw (note_ahead updated t a w o q.0 (ap (is_for updated) q.1) (d.turning ∙ y.ahead)) record {
      running = d.running;
      turning = d.turning;
      kind = goes (omega arith) (omega arith) g d.kind;
      last = tt;
      course = raise (in_batch h.stage y.place y.ahead) d.kind d.course y.ahead (omega (arith, h.size, y.tried)) q.1;
    }
tie {r} w h d (undo_taken {t = t} {s = a} o l g) =
    let y = on_rollback h l in
    let q : (w.ticket ≡ t) × (w.item ≡ undo (r.entries - 1)) = rw (is_live_lem Tickets.rollback t r.live l) at d.last in
    rw (note_behind rolledBack t a w o q.0 (ap (is_for rolledBack) q.1) (d.turning ∙ y.behind)) record {
      running = d.running;
      turning = d.turning;
      kind = goes (omega arith) (omega arith) g d.kind;
      last = tt;
      course = lower d.course y.behind (undo_back (in_undo h.stage y.behind y.some)) y.some q.1;
    }
tie w h d (committed i) = record { running = refl; turning = refl; kind = update_only refl refl; last = tt; course = ahead refl refl refl refl refl }
tie w h d (recovered e i) = record { running = refl; turning = refl; kind = update_only refl refl; last = tt; course = ahead refl refl refl refl refl }
tie w h d (restored e) = record { running = refl; turning = refl; kind = update_only refl refl; last = tt; course = ahead refl refl refl refl refl }
tie w h d (refreshed e k i) = record { running = d.running; turning = d.turning; kind = d.kind; last = d.last; course = d.course }
