-- The due asking leads on, by the Done report of its ticket or at once. Assumes nothing.
use Prim.Native.Nat.{ℕ, ◌+◌}
use mathlib.Core.Path.{◌≡◌, refl, sym, ◌∙◌, ap}
use mathlib.Core.Bool.{Bool, true, false}
use mathlib.Core.List.{[], ◌∷◌}
use lib.ListN.{length-append}
use borrow.Author.Tests.{eq-eqb, eqb-true, leb-true}
use Rattle.choice.specs.Pick.{pick}
use Rattle.choice.proofs.Picks.{picked}
use Rattle.choice.proofs.Tests.{never, both, either}
use Rattle.answers.specs.Classes as Classes
use Rattle.answers.specs.Classes.{ticketed, taken}
use Rattle.answers.specs.Classes.Class.{stepping}
use Rattle.answers.specs.Classes.StepAnswer.{ticket, finished}
use Rattle.answers.specs.Answers.{Said, says}
use Rattle.record.specs.Answers.{Told, said_of, answer, refuse}
use Rattle.record.specs.Given.Effect.{works}
use Rattle.record.specs.Fields.{with_place, adopting}
use Rattle.record.specs.declared.Record.{Record}
use Rattle.answers.specs.declared.Answer.TheVariants.{Ticket, Finished}
use Rattle.answers.specs.declared.Refusal.{Refusal}
use Rattle.step_asks.specs.Asks.{ask_structure_own, ask_update_own}
use Rattle.step_rollbacks.specs.Rollbacks.{ask_rollback_own}
use Rattle.calls.specs.Calls.{Report, Call, step}
use Rattle.calls.specs.Calls.Work.{structure, update, rollback}
use Rattle.calls.specs.Calls.Call.{ask}
use Rattle.demand_chains.specs.Chains.{heard}
use Rattle.demand_steps.specs.Watching as W
use Rattle.demand_steps.specs.Knowing.{Item, Watch}
use Rattle.demand_steps.specs.Watching.{hears_report, sees, watch}
use Rattle.demand_chains.specs.Plans.{due}
use Rattle.demand_chains.specs.Progress.{DoneReport, counted, wanted, MovesOn, Progress}
use Rattle.demand_chains.specs.Progress.DoneReport.{for_structure, for_update, for_rollback}
use Rattle.demand_steps.proofs.Own.{own}
use Rattle.demand_steps.proofs.Unseen.{Unseen}
use Rattle.demand_steps.proofs.Facts.{Whole, tests}
use Rattle.demand_steps.proofs.Testing.{ranges}
use Rattle.demand_chains.proofs.Chain.{Good, undamaged}
use Rattle.demand_steps.proofs.Calming.{range}
use Rattle.demand_steps.proofs.Keeping.{report_keeps}
use Rattle.demand_chains.proofs.OneDue.{Due, due_update, due_is}
use Rattle.demand_chains.proofs.Issuing.{done_taken}

-- one more is noted
notes_one : (v : Bool) (i : Item) (w : Watch) → w.turned ≡ v → counted (W.notes i w) ≡ counted w + 1
unfolding pick
notes_one true i w e = rw e (length-append w.undone (i ∷ []))
notes_one false i w e = rw e (length-append w.done (i ∷ []))

-- the asking itself counts nothing
record Same (w x : Watch) : Type 0 where
  as_much : counted x ≡ counted w
  as_many : wanted x ≡ wanted w
  running : x.running ≡ w.running
  turned : x.turned ≡ w.turned

module _ {w : Watch} {r : Record} (g : Good w r) {t : ℕ} where
  asked : {c d : Call} (a : Said) → a.class ≡ stepping ticket → due r c ≡ true → DoneReport t c d → Same w (sees w c a)
  unfolding sees due pick
  asked a n e (for_structure p q) = rw n (record { as_much = refl; as_many = refl; running = refl; turned = refl })
  asked a n e for_update = let i = g.tied.turning ∙ (due_update g.is_whole e).1 in rw n (record { as_much = rw i; as_many = rw i; running = refl; turned = refl })
  asked a n e for_rollback = let i = g.tied.turning ∙ (both e).0 in rw n (record { as_much = rw i; as_many = rw i; running = refl; turned = sym i })

-- and the Done report that is taken one
pub record Noted (w x : Watch) : Type 0 where
  pub one_more : counted x ≡ counted w + 1
  pub as_many : wanted x ≡ wanted w
  pub running : x.running ≡ w.running
  pub turned : x.turned ≡ w.turned

module _ {w x : Watch} (s : Same w x) (t : ℕ) where
  notes : (of : Report) (a : Said) → taken a.class ≡ true → Noted w (hears_report of t works a x)
  unfolding hears_report pick
  notes of a h = record {
    one_more = rw h (notes_one _ _ x refl) ∙ ap (λ (n : ℕ). n + 1) s.as_much;
    as_many = report_keeps wanted (λ d u y. refl) of t a x ∙ s.as_many;
    running = report_keeps (λ (y : Watch). y.running) (λ d u y. refl) of t a x ∙ s.running;
    turned = report_keeps (λ (y : Watch). y.turned) (λ d u y. refl) of t a x ∙ s.turned;
  }

  noted : {c d : Call} (a : Said) → taken a.class ≡ true → DoneReport t c d → Noted w (sees x d a)
  unfolding sees
  noted a h (for_structure p q) = notes _ a h
  noted a h for_update = notes _ a h
  noted a h for_rollback = notes _ a h

-- an asking that is due and is answered Finished: of updates, in phase 5
record Ends (r : Record) (c : Call) (x : Told) : Type 0 where
  from : x.class ≡ stepping finished → r.phase.number ≡ 5
  to : x.class ≡ stepping finished → x.state ≡ with_place 6 r.forward r.back r
  unseen : x.class ≡ stepping finished → Unseen c (said_of x)

unended : {r : Record} {c : Call} {x : Told} → (x.class ≡ stepping finished → ⊥) → Ends r c x
unended n = record { from = λ e. absurd (n e); to = λ e. absurd (n e); unseen = λ e. absurd (n e) }

refused : {r : Record} {c : Call} (why : Refusal) → Ends r c (refuse why r)
refused why = unended (λ e. never (ap Classes.refused e))

issued : {r : Record} {c : Call} (t i : ℕ) (q : Record) → Ends r c (answer (Ticket t i) q)
issued t i q = unended (λ e. never (ap ticketed e))

adopts : (r : Record) → r.phase.number ≡ 5 → Ends r (ask update) (answer Finished (adopting r))
unfolding adopting sees pick
adopts r e = record { from = λ h. e; to = λ h. rw (eq-eqb _ _ e); unseen = λ h w. refl }

module _ {r : Record} (w : Whole r) where
  ends : {c : Call} → Due r c → due r c ≡ true → Ends r c (own r c)
  unfolding due own ask_structure_own ask_update_own ask_rollback_own
  ends (Due.settle y) d =
      picked (Ends r (ask structure)) _ (λ h. refused _) (λ h.
      picked (Ends r (ask structure)) _ (λ i. either i (λ j. absurd (y.not7 (eqb-true _ _ j))) (λ j. absurd (y.not13 (eqb-true _ _ j)))) (λ i.
      picked (Ends r (ask structure)) _ (λ j. refused _) (λ j. issued _ _ _)))
  ends (Due.apply u v) d =
      picked (Ends r (ask update)) _ (λ h. refused _) (λ h.
      picked (Ends r (ask update)) _ (λ i. either d (λ j. adopts r (eqb-true _ _ j)) (λ j. absurd (omega (tests, both j)))) (λ i.
      picked (Ends r (ask update)) _ (λ j. refused _) (λ j. issued _ _ _)))
  ends (Due.undo v n) d =
      let t = (ranges w.stage).turned in
      picked (Ends r (ask rollback)) _ (λ h. absurd (omega (tests, t.empty (leb-true _ _ h)))) (λ h.
      picked (Ends r (ask rollback)) _ (λ i. refused _) (λ i.
      picked (Ends r (ask rollback)) _ (λ j. absurd (omega (tests, t.all v))) (λ j. issued _ _ _)))

module _ (w : Watch) (r : Record) (g : Good w r) (c : Call) (e : due r c ≡ true) where
  -- after a ticket and its Done report
  module _ (t i : ℕ) (d : Call) (h : said_of (step r c) ≡ says (Ticket t i)) (q : DoneReport t c d) where
    is_taken : taken (step (step r c).state d).class ≡ true
    is_taken = done_taken r c d t i (range g.is_whole.calm) h q

    pub counts-one : Noted w (watch w (heard r (c ∷ d ∷ [])))
    unfolding heard watch
    counts-one = noted (asked g _ (ap (λ (s : Said). s.class) h) e q) t _ is_taken q

  moves_law : (step r c).class ≡ stepping finished → MovesOn r w c
  unfolding heard watch
  moves_law h =
      let x : Ends r c (step r c) = rw (undamaged c g.is_whole) (ends g.is_whole (due_is r g.is_whole c e) e) in
      record { from = x.from h; to = x.to h; uncounted = x.unseen h w }

  pub progress_law : Progress r w c
  progress_law = record {
    counts = λ t i d h q. let z = counts-one t i d h q in record { is_taken = is_taken t i d h q; one_more = z.one_more; as_many = z.as_many };
    moves_on = moves_law;
  }
