-- Every call falls into one of the cases of `Leaf`. Assumes nothing.
use Prim.Native.Nat.{ℕ}
use mathlib.Core.Path.{◌≡◌, refl}
use mathlib.Core.Bool.{Bool, true, false}
use mathlib.Core.List.{List, []}
use lib.Dec.{eqb}
use borrow.Author.Tests.{eqb-true, ltb-false, leb-true, leb-false, not-false}
use Rattle.choice.specs.Pick.{pick, ◌or◌}
use Rattle.choice.proofs.Picks.{picked, each}
use Rattle.choice.proofs.Tests.{either, neither, eqb_ne}
use Rattle.areas.specs.Areas.{long}
use Rattle.areas.proofs.Laws.{within}
use Rattle.answers.specs.Answers.{says}
use Rattle.record.specs.Answers.{Told, refuse}
use Rattle.record.specs.Given.{effect_of}
use Rattle.record.specs.Fields.{spent, adopting}
use Rattle.record.specs.declared.Record.{Record}
use Rattle.record.specs.declared.Outcome.{Outcome}
use Rattle.record.specs.declared.Outcome.TheVariants as O
use Rattle.answers.specs.declared.Answer.TheVariants.{Finished}
use Rattle.answers.specs.declared.Refusal.{Refusal}
use Rattle.answers.specs.declared.Refusal.TheVariants.{Pending, Idle, Capacity, TooMany, Stale, LongCandidate, LongRecovery, LongSnapshot}
use Rattle.bars.specs.Bars.{Bar}
use Rattle.gates.specs.Gates.{barring, long_snapshot}
use Rattle.gates.proofs.Passing.{Fails}
use Rattle.step_begins.specs.Beginning.{begin_bars, begin_own, edit_bars, edit_own}
use Rattle.step_asks.specs.Asks.{ask_structure_own, ask_update_own}
use Rattle.step_rollbacks.specs.Rollbacks.{ask_rollback_own}
use Rattle.reporting.specs.Reporting.{reported}
use Rattle.step_structure.specs.Structure.{structure_done, storing, report_structure_bars, report_structure_own}
use Rattle.step_updates.specs.Updates.{update_done, report_update_bars, report_update_own}
use Rattle.step_undos.specs.Undos.{leaving, rollback_done, report_rollback_bars, report_rollback_own}
use Rattle.step_ends.specs.Ending.{commit_bars, commit_own, refresh_bars, refresh_own}
use Rattle.step_recoveries.specs.Recovering.{recover_bars, recover_own, recover_retained_own}
use Rattle.calls.specs.Calls.{Report, Call, step_with, step}
use Rattle.calls.specs.Calls.Work.{structure, update, rollback}
use Rattle.calls.specs.Calls.Report.{structured, updated, rolledBack}
use Rattle.calls.specs.Calls.Call.{begin, ask, report, edit, commit, recover, recover_retained, refresh, stamp, check}
use Rattle.demand_steps.specs.Watching.{sees}
use Rattle.demand_steps.specs.Watching as Watching
use Rattle.demand_steps.proofs.Own.{own, row, answers}
use Rattle.demand_steps.proofs.Unseen.{Unseen, unseen}
use Rattle.demand_steps.proofs.Leaf.{Apart, Updates, Left, Leaf}
use Rattle.demand_steps.proofs.Leaf.Goes.{last, more}
use Rattle.demand_steps.proofs.Leaf.Leaf.{kept, began, structure_asked, update_ended, update_asked, rollback_ended, turned_empty, turned_asked, waited, went, update_taken, undo_taken, committed, recovered, restored, refreshed}

-- which tests must fail for a call to be performed, as facts
pub open_tests : (p : ℕ) → eqb p 0 or eqb p 5 or eqb p 8 ≡ false → eqb p 7 or eqb p 13 ≡ false → Apart p
open_tests p e d =
    let x = neither e in
    let y = neither x.0 in
    let z = neither d in
    record { not0 = eqb_ne _ _ y.0; not5 = eqb_ne _ _ y.1; not7 = eqb_ne _ _ z.0; not8 = eqb_ne _ _ x.1; not13 = eqb_ne _ _ z.1 }

pub updates_of : (p : ℕ) → eqb p 0 or eqb p 5 ≡ true → Updates p
updates_of p e = either e (λ h. Updates.flat (eqb-true _ _ h)) (λ h. Updates.batch (eqb-true _ _ h))

-- an asking for structure that is answered Finished
finished_unseen : Unseen (ask structure) (says Finished)
unfolding sees pick
finished_unseen w = refl

module _ (r : Record) where
  stores : (c o : ℕ) → long c ≡ false → long o ≡ false → Left r r.accepted c o
  stores c o h i l = record { accepted = l.accepted; candidate = within c h; recovery = within o i }

  pub refuses : {c : Call} (why : Refusal) → Leaf r c (refuse why r)
  refuses {c} why = kept (unseen c why) (λ l. l)

  barred : {c : Call} (bs : List (Bar Refusal)) {done : Told} → (Fails bs → Leaf r c done) → Leaf r c (barring bs r done)
  barred {c} = row (Leaf r c) r refuses

  split : {c : Call} {x y : Told} (b : Bool) → (b ≡ true → Leaf r c x) → (b ≡ false → Leaf r c y) → Leaf r c (pick b x y)
  split {c} = picked (Leaf r c)

  -- a report by its outcome: Waiting and Failed, or what Done does
  outcomes : {of : Report} {t n o : ℕ} {done : Told} → Left r r.accepted n o → Leaf r (report of t O.Done) done → (x : Outcome) →
      Leaf r (report of t x) (reported (effect_of x) (spent (storing n o r)) done)
  unfolding reported sees Watching.hears_report pick
  outcomes f l O.Waiting = waited (λ w. refl) f
  outcomes f l (O.Failed code) = waited (λ w. refl) f
  outcomes f l O.Done = l

  pub classify : (c : Call) → Leaf r c (own r c)
  unfolding own begin_own edit_own ask_structure_own ask_update_own ask_rollback_own report_structure_own report_update_own report_rollback_own commit_own recover_own recover_retained_own refresh_own structure_done update_done rollback_done adopting leaving sees
  classify (begin structural b) =
      barred (begin_bars r b) (λ f. let x = neither (f Capacity) in
      began (f Pending) (eqb_ne _ _ x.0) (eqb_ne _ _ x.1) (stores _ _ (f LongCandidate) (f LongRecovery)) (ltb-false _ _ (f TooMany)))
  classify (ask structure) =
      split _ (λ e. refuses _) (λ e₁. split _ (λ e. kept finished_unseen (λ l. l)) (λ e₂. split _ (λ e. refuses _) (λ e₃. structure_asked (open_tests _ e₁ e₂))))
  classify (ask update) =
      split _ (λ e. refuses _) (λ e₁.
      let s = neither e₁ in
      let u = updates_of r.phase.number (not-false _ s.0) in
      split _ (λ e. update_ended u s.1 (eqb-true _ _ e)) (λ e₂. split _ (λ e. refuses _) (λ e₃. update_asked u s.1 (eqb_ne _ _ e₂))))
  classify (ask rollback) =
      split _ (λ e. rollback_ended (leb-true _ _ e)) (λ e₁. split _ (λ e. refuses _) (λ e₂.
      split _ (λ e. turned_empty (leb-false _ _ e₁) (eqb-true _ _ e)) (λ e₃. turned_asked (leb-false _ _ e₁) (eqb_ne _ _ e₃))))
  classify (report (structured c o) t x) =
      barred (report_structure_bars r t c o) (λ f. let s = stores c o (f LongCandidate) (f LongRecovery) in let l = not-false _ (f Stale) in
      outcomes s (each (Leaf r _) _ (went refl l s) (went refl l s)) x)
  classify (report updated t x) =
      barred (report_update_bars r t) (λ f. let l = not-false _ (f Stale) in
      outcomes (λ k. k) (split _ (λ h. update_taken refl l (last (eqb-true _ _ h))) (λ h. update_taken refl l (more (eqb_ne _ _ h)))) x)
  classify (report rolledBack t x) =
      barred (report_rollback_bars r t) (λ f. let l = not-false _ (f Stale) in
      outcomes (λ k. k) (split _ (λ h. undo_taken refl l (last (eqb-true _ _ h))) (λ h. undo_taken refl l (more (eqb_ne _ _ h)))) x)
  classify (edit c o) = barred (edit_bars r c o) (λ f. kept (λ w. refl) (stores c o (f LongCandidate) (f LongRecovery)))
  classify commit = barred (commit_bars r) (λ f. committed (not-false _ (f Idle)))
  classify (recover n) = barred (recover_bars r (long_snapshot n [])) (λ f. recovered (not-false _ (f Idle)) (within n (f LongSnapshot)))
  classify recover_retained = barred (recover_bars r []) (λ f. restored (not-false _ (f Idle)))
  classify (refresh n) =
      barred (refresh_bars r n) (λ f. refreshed (f Pending) (eqb_ne _ _ (f Capacity)) (within n (f LongSnapshot)))
  classify (stamp domain) = split _ (λ e. refuses _) (λ e. kept (λ w. refl) (λ l. l))
  classify (check domain s) = split _ (λ e. kept (λ w. refl) (λ l. l)) (λ e. kept (λ w. refl) (λ l. l))

  -- on any record, whatever it is lent: one that is not whole is refused
  pub lent_leaf : (sized sound : Bool) (c : Call) → Leaf r c (step_with sized sound r c)
  lent_leaf sized sound c = answers (Leaf r c) r refuses sized sound c (λ w. classify c)

  pub leaf : (c : Call) → Leaf r c (step r c)
  leaf c = lent_leaf true true c
