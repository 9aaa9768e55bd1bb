-- C46, C48: in every chain the phases that were reported done are the start of the fixed list, as many as the record's count says, before
-- and after a rollback: a report of structure work adds the next of the list, any other report none. Assumes nothing.
use Prim.Native.Nat.{ℕ, zero, suc, ◌+◌, ◌-◌, ◌≤◌, ◌<◌}
use mathlib.Core.{Path.◌≡◌, Path.refl, Path.sym, Path.◌∙◌, Path.ap, Bool.Bool, Bool.true, List.List, List.[], List.◌∷◌, List.◌++◌, List.append-nil, List.append_assoc}
use native.Mathlib.Omega.{arith}
use lib.ListN.{take}
use Rattle.choice.specs.Pick.{pick}
use Rattle.phases.specs.Phases.{remove, adopt, recover_remove}
use Rattle.record.specs.{Answers.Told, Answers.said_of, Fields.spent, Fields.adopting, declared.Record.Record, declared.Opening.Opening}
use Rattle.answers.specs.{Classes.successful}
use Rattle.tickets.specs.Live as Tickets
use Rattle.step_opens.specs.Opening.{opening, open_step}
use Rattle.step_begins.specs.Beginning.{begun}
use Rattle.step_rollbacks.specs.Rollbacks.{turned}
use Rattle.step_structure.specs.Structure.{storing}
use Rattle.calls.specs.{Calls.Report, Calls.Call, Calls.Report.structured, Calls.Report.updated, Calls.Report.rolledBack}
use Rattle.demand_steps.specs.Typed.{Typed}
use Rattle.demand_steps.specs.Knowing.{Item, Watch, unwatched}
use Rattle.demand_steps.specs.Watching.{is_for, sees, watch}
use Rattle.demand_steps.specs.Knowing.Item.{settle, apply, undo}
use Rattle.demand_steps.proofs.{Facts.Whole, Facts.by_case, Testing.ranges, Wholeness.successor_test, Tickets.is_live_lem, Tickets.on_structure, Tickets.on_update, Tickets.on_rollback}
use Rattle.demand_steps.proofs.{Moves.Along, Moves.goes_up, Moves.goes_down, Moves.in_along, Moves.Along.start, Moves.Along.close, Moves.Along.back, Leaf.Leaf}
use Rattle.demand_steps.proofs.Leaf.Leaf.{kept, began, structure_asked, update_ended, update_asked, rollback_ended, turned_empty, turned_asked, waited, went, update_taken, undo_taken}
use Rattle.demand_steps.proofs.Leaf.Leaf.{committed, recovered, restored, refreshed}
use Rattle.demand_chains.specs.Sending.{Sent, after_sent, heard_sent}
use Rattle.demand_chains.proofs.{Noting.Tied, Noting.note_ahead, Noting.note_behind, Sending.chain_keeps, Chain.Good, Chain.good_leaf, Theorems.good}
use Rattle.clauses.specs.Chains.{forward_stages, recovery_stages, stage_of, stages, Steps, Listed}
use Rattle.clauses.proofs.{Splitting.keeps, Openings.opened}

-- one more report, for a phase or for none
one_more : (is : List Item) (i : Item) → stages (is ++ (i ∷ [])) ≡ stages is ++ stage_of i
one_more [] i = append-nil (stage_of i)
one_more (j ∷ js) i = rw (one_more js i) (sym (append_assoc (stage_of j) (stages js) (stage_of i)))

same : (is : List Item) (i : Item) → stage_of i ≡ [] → stages (is ++ (i ∷ [])) ≡ stages is
same is i e = one_more is i ∙ rw e (append-nil (stages is))

-- and one more of a fixed list: both begin with four phases in a row, from q on
in_a_row : (q i p : ℕ) (more : List ℕ) → q + i ≡ p → i < 4 →
    take i (q ∷ (q + 1) ∷ (q + 2) ∷ (q + 3) ∷ more) ++ (p ∷ []) ≡ take (i + 1) (q ∷ (q + 1) ∷ (q + 2) ∷ (q + 3) ∷ more)
in_a_row q zero p more e h = ap (λ (n : ℕ). n ∷ []) (omega arith)
in_a_row q (suc zero) p more e h = rw (← e)
in_a_row q (suc (suc zero)) p more e h = rw (← e)
in_a_row q (suc (suc (suc zero))) p more e h = rw (← e)
in_a_row q (suc (suc (suc (suc i)))) p more e h = absurd (omega arith)

module _ {p f b n a k : ℕ} {v : Bool} where
  forth : Along p f b n a k v → p ≤ 6 → take f forward_stages ++ (p ∷ []) ≡ take (f + 1) forward_stages
  forth (start x1 x2 x3 x4 x5 x6) h = in_a_row remove f p (adopt ∷ []) (omega arith) (omega arith)
  forth (close x1 x2 x3 x4 x5) h = rw (x2, x3)
  forth (back x1 x2 x3 x4 x5 x6 x7) h = absurd (omega arith)

  away : Along p f b n a k v → 6 < p → take b recovery_stages ++ (p ∷ []) ≡ take (b + 1) recovery_stages
  away (start x1 x2 x3 x4 x5 x6) h = absurd (omega arith)
  away (close x1 x2 x3 x4 x5) h = absurd (omega arith)
  away (back x1 x2 x3 x4 x5 x6 x7) h = in_a_row recover_remove b p [] (omega arith) (omega arith)

-- at the start of a transaction
none : Steps [] [] 0 0
none = record { c46 = refl; c48 = refl }

steps : {r : Record} {c : Call} {x : Told} (w : Watch) → Whole r → Tied w r → Listed w r → Leaf r c x → Listed (sees w c (said_of x)) x.state
unfolding sees begun turned adopting opening pick
steps w h d s (kept u f) = rw (u w) s
steps w h d s (began i l k f m) = none
steps w h d s (structure_asked y) = s
steps w h d s (update_ended u e n) = s
steps w h d s (update_asked u e n) = s
steps w h d s (rollback_ended p) = s
steps w h d s (turned_empty p n) = s
steps w h d s (turned_asked p n) = s
steps w h d s (waited u f) = rw (u w) s
steps {r} w h d s (went {t = t} {n = new} {o = old} {s = a} o l f) =
    let y = (on_structure h l).apart in
    let q : (w.ticket ≡ t) × (w.item ≡ settle r.phase.number) = rw (is_live_lem Tickets.structure t r.live l) at d.last in
    let of : Report = structured new old in
    let x : Record = spent (storing new old r) in
    let m = ranges h.stage in
    let e = successor_test r.phase.number m.bound y in
    by_case 6 r.phase.number
    (λ (j : 6 < r.phase.number). rw (goes_down x e j, note_behind of t a w o q.0 (ap (is_for of) q.1) (d.turning ∙ m.turned.behind (omega (arith, y)))) record {
      c46 = s.c46;
      c48 = one_more w.undone w.item ∙ rw (q.1, s.c48) (away (in_along h.stage y) j);
    })
    (λ (j : r.phase.number ≤ 6). rw (goes_up x e j, note_ahead of t a w o q.0 (ap (is_for of) q.1) (d.turning ∙ m.turned.ahead (omega (arith, y)) (omega arith))) record {
      c46 = one_more w.done w.item ∙ rw (q.1, s.c46) (forth (in_along h.stage y) j);
      c48 = s.c48;
    })
steps {r} w h d s (update_taken {t = t} {s = a} o l g) =
    let q : (w.ticket ≡ t) × (w.item ≡ apply r.applied) = rw (is_live_lem Tickets.update t r.live l) at d.last in
    rw (note_ahead updated t a w o q.0 (ap (is_for updated) q.1) (d.turning ∙ (on_update h l).ahead))
    record { c46 = same w.done w.item (ap stage_of q.1) ∙ s.c46; c48 = s.c48 }
steps {r} w h d s (undo_taken {t = t} {s = a} o l g) =
    let q : (w.ticket ≡ t) × (w.item ≡ undo (r.entries - 1)) = rw (is_live_lem Tickets.rollback t r.live l) at d.last in
    rw (note_behind rolledBack t a w o q.0 (ap (is_for rolledBack) q.1) (d.turning ∙ (on_rollback h l).behind))
    record { c46 = s.c46; c48 = same w.undone w.item (ap stage_of q.1) ∙ s.c48 }
steps w h d s (committed i) = none
steps w h d s (recovered e i) = none
steps w h d s (restored e) = none
steps w h d s (refreshed e k i) = s

-- in every chain from an opening that is not refused
pub steps_listed : (sized : Bool) (given : Opening) (l : ℕ) (m : Typed given) (o : successful (open_step sized given l).class ≡ true) (ss : List Sent) →
    Listed (watch unwatched (heard_sent (open_step sized given l).state ss)) (after_sent (open_step sized given l).state ss)
unfolding opening unwatched watch heard_sent after_sent
steps_listed sized given l m o ss =
    (chain_keeps (λ w r. Good w r × Listed w r) (λ w r c x k p. (good_leaf k p.0, steps w p.0.is_whole p.0.tied p.1 k)) unwatched _ ss
    (good sized given l m o [], keeps (λ s. Steps [] [] s.forward s.back) (opened given m sized l) none none)).1
