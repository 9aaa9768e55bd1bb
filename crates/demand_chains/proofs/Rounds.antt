-- Until commit or recovery succeeds, some asks and a Done report count one more, unless the serial is at its maximum. Assumes nothing.
use Prim.Native.Nat.{ℕ, ◌+◌}
use mathlib.Core.Path.{◌≡◌, refl, sym, ◌∙◌, ap, subst}
use mathlib.Core.Bool.{true}
use mathlib.Core.List.{List, [], ◌∷◌}
use mathlib.Core.Logic.{◌≢◌}
use native.Mathlib.Omega.{arith}
use Rattle.choice.specs.Pick.{pick, ◌or◌}
use Rattle.choice.proofs.Tests.{never, join}
use Rattle.phases.specs.Phases.{successor}
use Rattle.answers.specs.Classes.{Class, granted, ticketed}
use Rattle.answers.specs.Classes.Class.{performed, refusal, stepping}
use Rattle.answers.specs.Classes.StepAnswer.{ticket, waiting, failed, more, finished}
use Rattle.record.specs.Answers.{Told}
use Rattle.record.specs.Fields.{top}
use Rattle.record.specs.declared.Record.{Record}
use Rattle.step_structure.specs.Structure.{advanced}
use Rattle.calls.specs.Calls.{Call, step}
use Rattle.calls.specs.Kinds.{kind_of, step_kind}
use Rattle.demand_chains.specs.Chains.{after, heard}
use Rattle.demand_steps.specs.Knowing.{Watch}
use Rattle.demand_steps.specs.Watching.{watch}
use Rattle.demand_chains.specs.Plans.{due}
use Rattle.demand_chains.specs.Promises.{Asking}
use Rattle.demand_chains.specs.Progress.{DoneReport, counted, wanted, worked}
use Rattle.demand_chains.specs.Progress.DoneReport.{for_structure, for_update, for_rollback}
use Rattle.demand_steps.proofs.Leaf.{Leaf}
use Rattle.demand_steps.proofs.Leaf.Leaf.{kept, waited, went, update_taken, undo_taken}
use Rattle.demand_steps.proofs.Classify.{leaf}
use Rattle.demand_steps.proofs.Keeping.{onward_keeps}
use Rattle.demand_chains.proofs.Chain.{Good, good_leaf}
use Rattle.demand_chains.proofs.OneDue.{Due, due_is}
use Rattle.demand_chains.proofs.Asking.{asking_law}
use Rattle.demand_chains.proofs.Issuing.{ticket_of}
use Rattle.demand_chains.proofs.Progress.{Noted, counts-one, progress_law}

-- a report leaves the serial
reports : {r : Record} {t : ℕ} {c d : Call} {x : Told} → DoneReport t c d → Leaf r d x → x.state.serial ≡ r.serial
unfolding advanced
reports (for_structure p q) (kept u f) = refl
reports (for_structure p q) (waited u f) = refl
reports {r} (for_structure p q) (went o l f) = onward_keeps (λ (x : Record). x.serial) (λ p a b x. refl) (successor r.phase.number) _
reports for_update (kept u f) = refl
reports for_update (waited u f) = refl
reports for_update (update_taken o l g) = refl
reports for_rollback (kept u f) = refl
reports for_rollback (waited u f) = refl
reports for_rollback (undo_taken o l g) = refl

-- asks and reports are work
asks_work : {r : Record} {c : Call} → Due r c → step_kind (kind_of c) ≡ true
unfolding kind_of ◌or◌
asks_work (Due.settle y) = refl
asks_work (Due.apply u v) = refl
asks_work (Due.undo v n) = refl

reports_work : {t : ℕ} {c d : Call} → DoneReport t c d → step_kind (kind_of d) ≡ true
unfolding kind_of ◌or◌
reports_work (for_structure p q) = refl
reports_work for_update = refl
reports_work for_rollback = refl

-- work after which one more is counted
pub record Round (w : Watch) (r : Record) : Type 0 where
  pub calls : List Call
  pub by_work : worked calls ≡ true
  pub good : Good (watch w (heard r calls)) (after r calls)
  pub noted : Noted w (watch w (heard r calls))
  pub serial : (after r calls).serial ≡ r.serial + 1

with_ticket_lem : {w : Watch} {r : Record} (c : Call) → Good w r → due r c ≡ true → ticketed (step r c).class ≡ true → Round w r
unfolding heard watch after worked
with_ticket_lem {w} {r} c g e n =
    let d = due_is r g.is_whole c e in
    let t = ticket_of g.is_whole d n in
    record {
      calls = c ∷ t.report ∷ [];
      by_work = join (asks_work d) (join (reports_work t.is_done) refl);
      good = good_leaf (leaf _ t.report) (good_leaf (leaf r c) g);
      noted = counts-one w r g c e t.number t.item t.report t.answered t.is_done;
      serial = reports t.is_done (leaf _ t.report) ∙ t.raised;
    }

-- an asking that the watcher notes nothing for, and then calls
later : {w : Watch} {r : Record} (c : Call) → step_kind (kind_of c) ≡ true → watch w (heard r (c ∷ [])) ≡ w → (step r c).state.serial ≡ r.serial →
    Round w (step r c).state → Round w r
unfolding heard watch after worked
later {w} {r} c k u s x =
    let rest : Watch → Watch = λ y. watch y (heard (step r c).state x.calls) in
    record {
      calls = c ∷ x.calls;
      by_work = join k x.by_work;
      good = subst (λ (y : Watch). Good (rest y) (after (step r c).state x.calls)) (sym u) x.good;
      noted = subst (λ (y : Watch). Noted w (rest y)) (sym u) x.noted;
      serial = x.serial ∙ ap (λ (n : ℕ). n + 1) s;
    }

quietly : {w : Watch} {r : Record} (c : Call) → watch w (heard r (c ∷ [])) ≡ w → Good w r → Good w (step r c).state
unfolding heard watch
quietly {w} {r} c u g = subst (λ (y : Watch). Good y (step r c).state) u (good_leaf (leaf r c) g)

-- "Granted means Ticket or Finished."
granting : {P : Type 0} {a : Class} → granted a ≡ true → (ticketed a ≡ true → P) → (a ≡ stepping finished → P) → P
granting {a = performed} e f g = never (sym e)
granting {a = refusal why} e f g = never (sym e)
granting {a = stepping ticket} e f g = f refl
granting {a = stepping waiting} e f g = never (sym e)
granting {a = stepping failed} e f g = never (sym e)
granting {a = stepping more} e f g = never (sym e)
granting {a = stepping finished} e f g = g refl

module _ {w : Watch} (i : w.running ≡ true) (n : counted w ≢ wanted w) where
  asking : {r : Record} → Good w r → Asking r
  unfolding pick
  asking {r} g = asking_law w r g i (λ e. rw e at n) (λ e. rw e at n)

  -- the due asking has a ticket, or else the one after it
  pub round : {r : Record} → Good w r → r.serial ≢ top → Round w r
  round {r} g s =
      let a = asking g in
      granting (a.is_granted s) (λ h. with_ticket_lem a.call g a.is_due h) (λ h.
      let m = (progress_law w r g a.call a.is_due).moves_on h in
      let k = quietly a.call m.uncounted g in
      let b = asking k in
      let z : (step r a.call).state.serial ≡ r.serial = ap (λ (x : Record). x.serial) m.to in
      later a.call (asks_work (due_is r g.is_whole a.call a.is_due)) m.uncounted z
      (granting (b.is_granted (λ e. s (sym z ∙ e))) (λ j. with_ticket_lem b.call k b.is_due j) (λ j.
      let p = ((progress_law w (step r a.call).state k b.call b.is_due).moves_on j).from in
      let q : (step r a.call).state.phase.number ≡ 6 = ap (λ (x : Record). x.phase.number) m.to in
      absurd (omega arith))))
