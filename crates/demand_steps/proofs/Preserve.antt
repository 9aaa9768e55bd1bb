-- A step from a whole record leaves a whole record. Assumes nothing.
use Prim.Native.Nat.{ℕ}
use mathlib.Core.Path.{refl, ◌∙◌}
use mathlib.Core.Bool.{Bool, true, false}
use native.Mathlib.Omega.{arith}
use Rattle.choice.specs.Pick.{pick}
use Rattle.record.specs.Answers.{Told}
use Rattle.record.specs.Fields.{adopting}
use Rattle.record.specs.Given.{standing}
use Rattle.record.specs.declared.Record.{Record}
use Rattle.step_begins.specs.Beginning.{first_phase, begun}
use Rattle.step_rollbacks.specs.Rollbacks.{turned}
use Rattle.calls.specs.Calls.{Call}
use Rattle.demand_steps.specs.Typed.{Typed}
use Rattle.demand_steps.proofs.Leaf.{Leaf}
use Rattle.demand_steps.proofs.Leaf.Goes.{last, more}
use Rattle.demand_steps.proofs.Leaf.Leaf.{kept, began, structure_asked, update_ended, update_asked, rollback_ended, turned_empty, turned_asked, waited, went, update_taken, undo_taken, committed, recovered, restored, refreshed}
use Rattle.demand_steps.proofs.Facts.{Stage, Whole}
use Rattle.demand_steps.proofs.Facts.Stage.{flat, before}
use Rattle.demand_steps.proofs.Facts.Calm.{on}
use Rattle.demand_steps.proofs.Moves.{choice, turn, in_batch, in_undo, raised, turned_none, turned_some, lowered, all_tried}
use Rattle.demand_steps.proofs.Tickets.{on_structure, on_update, on_rollback, ended}
use Rattle.demand_steps.proofs.Calming.{busy, quietly, hush, room, range, raises}
use Rattle.demand_steps.proofs.Advancing.{advances, idles}

first : (structural : Bool) {n : ℕ} → Stage (first_phase structural) 0 0 n 0 0 false
unfolding first_phase pick
first true = before refl (omega arith) (omega arith) (omega arith) refl refl
first false = flat refl refl refl refl

pub preserve : {r : Record} {c : Call} {x : Told} → Whole r → Leaf r c x → Whole x.state
unfolding begun turned adopting
preserve w (kept u f) = record { lengths = f w.lengths; size = w.size; stage = w.stage; ticket = w.ticket; calm = w.calm }
preserve {r} w (began {structural = structural} i l k f m) =
    let x : Typed (standing r) = range w.calm in
    record { lengths = f w.lengths; size = omega arith; stage = first structural; ticket = tt; calm = on refl (omega arith) (omega arith) }
preserve w (structure_asked y) = record {
  lengths = w.lengths;
  size = w.size;
  stage = w.stage;
  ticket = record { number = refl; real = omega arith; apart = y };
  calm = busy w.calm (λ z n l. y.not0 z);
}
preserve {r} w (update_ended u e s) = record {
  lengths = w.lengths;
  size = w.size;
  stage = raised (last s) (in_batch w.stage u e) e (omega arith);
  ticket = rw (ended w u e s) tt;
  calm = quietly w.calm (λ z m l. ((choice r.phase.number 5 6 r.phase.number).isnt (omega arith) ∙ z, m, l));
}
preserve w (update_asked u e n) = record {
  lengths = w.lengths;
  size = omega (arith, w.size);
  stage = raised (more n) (in_batch w.stage u e) e (omega (arith, w.size));
  ticket = record { number = refl; real = omega arith; place = u; ahead = e; tried = refl };
  calm = busy w.calm (λ z m l. omega (arith, w.size));
}
preserve w (rollback_ended p) = w
preserve {r} w (turned_empty p n) = record {
  lengths = w.lengths;
  size = omega (arith, w.size);
  stage = turned_none w.stage (turn r.phase.number 9) p n;
  ticket = tt;
  calm = quietly w.calm (λ z m l. ((turn r.phase.number 9).flat z, n, refl));
}
preserve {r} w (turned_asked p n) = record {
  lengths = w.lengths;
  size = omega (arith, w.size);
  stage = turned_some w.stage (turn r.phase.number 8) p (omega arith);
  ticket = record { number = refl; real = omega arith; behind = refl; some = omega arith };
  calm = busy w.calm (λ z m l. omega (arith, w.size));
}
preserve w (waited u f) = record { lengths = f w.lengths; size = w.size; stage = w.stage; ticket = tt; calm = hush w.calm }
preserve w (went t l f) = advances w (on_structure w l).apart f
preserve w (update_taken t l g) = let y = on_update w l in record {
  lengths = w.lengths;
  size = omega (arith, w.size, y.tried);
  stage = raised g (in_batch w.stage y.place y.ahead) y.ahead (omega (arith, w.size, y.tried));
  ticket = tt;
  calm = busy w.calm (λ z m i. omega (arith, w.size, y.tried));
}
preserve {r} w (undo_taken t l g) = let y = on_rollback w l in let u = in_undo w.stage y.behind y.some in record {
  lengths = w.lengths;
  size = omega (arith, w.size, y.some, all_tried u);
  stage = lowered g u y.behind (omega (arith, all_tried u));
  ticket = tt;
  calm = busy w.calm (λ z m i. omega (arith, y.some));
}
preserve {r} w (committed i) = idles _ _ (omega (arith, room w.calm i)) w.lengths.candidate
preserve {r} w (recovered e i) = idles _ _ (omega (arith, room w.calm e)) i
preserve {r} w (restored e) = idles _ _ (omega (arith, room w.calm e)) w.lengths.recovery
preserve {r} w (refreshed e k i) = record {
  lengths = record { accepted = i; candidate = w.lengths.candidate; recovery = w.lengths.recovery };
  size = w.size;
  stage = w.stage;
  ticket = w.ticket;
  calm = raises w.calm e k;
}
