-- The gaps that document 01 reads in the upstream contracts, closed: structure, update and rollback. Assumes nothing.
use Prim.Native.Nat.{ℕ, ◌≤◌}
use mathlib.Core.{Path.◌≡◌, Path.refl, Path.sym, Path.◌∙◌, Path.subst, Bool.true, List.[], Logic.◌≢◌}
use native.Mathlib.Omega.{arith}
use lib.Dec.{eqb}
use borrow.Author.Tests.{eq-eqb, eqb-true, lt-ltb, not-true}
use Rattle.choice.specs.Pick.{pick}
use Rattle.choice.proofs.Tests.{tests, both, join, eqb_ne}
use Rattle.phases.specs.Phases.{updates, adopt, undo, recover_remove}
use Rattle.areas.specs.Areas.{area_size}
use Rattle.record.specs.{Answers.Told, Fields.adopting, declared.Record.Record, declared.Outcome.Outcome, Given.standing}
use Rattle.record.specs.{declared.Outcome.TheVariants.Done}
use Rattle.answers.specs.{Classes.Class.stepping, Classes.StepAnswer.finished}
use Rattle.tickets.specs.{Live.is_live}
use Rattle.tickets.specs.Live as Tickets
use Rattle.wholeness.specs.Whole.{whole}
use Rattle.gates.proofs.Passing.{payloads_pass}
use Rattle.step_asks.specs.Asks.{ask_structure_own, ask_update_own}
use Rattle.step_rollbacks.specs.Rollbacks.{turned, ask_rollback_own}
use Rattle.reporting.specs.Reporting.{reported}
use Rattle.step_structure.specs.Structure.{structure_done, report_structure_own}
use Rattle.step_updates.specs.Updates.{update_done, report_update_bars, report_update_own}
use Rattle.step_undos.specs.Undos.{leaving, rollback_done, report_rollback_bars, report_rollback_own}
use Rattle.calls.specs.{Calls.step, Calls.Work.structure, Calls.Work.update, Calls.Work.rollback, Calls.Report.structured, Calls.Report.updated, Calls.Report.rolledBack}
use Rattle.calls.specs.{Calls.Call.ask, Calls.Call.report}
use Rattle.demand_steps.specs.Typed.{Typed}
use Rattle.demand_steps.proofs.{Own.own, Moves.choice, Moves.turn}
use Rattle.clauses.specs.Gaps.{Succeeds, StructureAsked, AtFinished, RollbackAsked}
use Rattle.clauses.proofs.Splitting.{Kept, clash, differ, unended, by, past, outcomes, on_step}
use Rattle.clauses.proofs.Onward.{no_successor, ended, exclusive, onwards}

module _ (r : Record) (m : Typed (standing r)) (w : whole r ≡ true) where
  -- a Done report with the live ticket, whose payloads fit
  pub report_advances : (t c o : ℕ) → is_live Tickets.structure t r.live ≡ true → c ≤ area_size → o ≤ area_size → Succeeds r (step r (report (structured c o) t Done))
  unfolding own report_structure_own reported structure_done
  report_advances t c o l x y = on_step r m w (report (structured c o) t Done) (Succeeds r)
      (by (Succeeds r) _ (λ e. clash _ l (not-true _ e)) (λ e. subst (Kept (Succeeds r)) (sym (payloads_pass [] r _ x y))
      (by (Succeeds r) _ (λ i k. record { onward = onwards r m w t l c o; finished = λ j. refl; more = clash _ i })
      (λ i k. record { onward = onwards r m w t l c o; finished = λ j. clash _ j i; more = λ j. refl }))))

  abbrev Asked : Told → Type 0
  Asked = StructureAsked r

  pub structure_answers : Asked (step r (ask structure))
  unfolding own ask_structure_own
  structure_answers = on_step r m w (ask structure) Asked (by Asked _ (λ e k.
      record { not_ready = λ i. refl; finished = exclusive r.phase.number e; ticket = no_successor _ e; worn = no_successor _ e; staged = search }) (λ e₁. by Asked _ (λ e k.
      record { not_ready = λ i. clash _ i e₁; finished = λ i. refl; ticket = ended r.phase.number e; worn = ended r.phase.number e; staged = search }) (λ e₂. by Asked _ (λ e k.
      record { not_ready = λ i. clash _ i e₁; finished = λ i. clash _ i e₂; ticket = λ i s. absurd (s (eqb-true _ _ e)); worn = λ i s. refl; staged = search }) (λ e₃ k.
      record { not_ready = λ i. clash _ i e₁; finished = λ i. clash _ i e₂; ticket = λ i s. (refl, refl); worn = λ i s. absurd (eqb_ne _ _ e₃ s); staged = search }))))

  -- a phase that a test picks, at the answer Finished
  turns : {from to : ℕ} {t : Told} → t.class ≡ stepping finished → t.state.phase.number ≡ pick (eqb r.phase.number from) to r.phase.number → AtFinished from to r t
  turns {from} {to} n e = let x = choice r.phase.number from to r.phase.number in
      record { becomes = λ i j. e ∙ x.is j; stays = λ i. absurd (i n); elsewhere = λ j. e ∙ x.isnt j }

  stands : {from to : ℕ} {t : Told} → t.class ≢ stepping finished → t.state.phase.number ≡ r.phase.number → AtFinished from to r t
  stands n e = record { becomes = λ i. absurd (n i); stays = λ i. e; elsewhere = λ j. e }

  abbrev Updating : Told → Type 0
  Updating = AtFinished updates adopt r

  abbrev Undoing : Told → Type 0
  Undoing = AtFinished undo recover_remove r

  pub update_asked_phase : Updating (step r (ask update))
  unfolding own ask_update_own adopting
  update_asked_phase = on_step r m w (ask update) Updating
      (by Updating _ (λ e k. stands (unended refl) refl) (λ e₁. by Updating _ (λ e k. turns refl refl) (λ e₂.
      by Updating _ (λ e k. stands (unended refl) refl) (λ e₃ k. stands (unended refl) refl))))

  module _ (t : ℕ) (x : Outcome) where
    pub update-reported-phase : Updating (step r (report updated t x))
    unfolding own report_update_own update_done adopting
    update-reported-phase = on_step r m w (report updated t x) Updating (past Updating r (λ why g k. stands (unended refl) refl) (report_update_bars r t) refl (λ y.
        outcomes Updating x (λ a vs n k. stands (unended n) refl) (by Updating _ (λ d k. turns refl refl) (λ d k. stands (differ refl) refl))))

    pub rollback-reported-phase : Undoing (step r (report rolledBack t x))
    unfolding own report_rollback_own rollback_done leaving
    rollback-reported-phase = on_step r m w (report rolledBack t x) Undoing (past Undoing r (λ why g k. stands (unended refl) refl) (report_rollback_bars r t) refl (λ y.
        outcomes Undoing x (λ a vs n k. stands (unended n) refl) (by Undoing _ (λ d k. turns refl refl) (λ d k. stands (differ refl) refl))))

  pub rollback_asked_phase : RollbackAsked r (step r (ask rollback))
  unfolding own ask_rollback_own turned
  rollback_asked_phase = on_step r m w (ask rollback) (RollbackAsked r)
      (by (RollbackAsked r) _ (λ e k. record {
        empty = λ i j. absurd (omega tests);
        some = λ i j. absurd (omega tests);
        flat = λ i. i;
        undoing = λ i. i;
        behind = λ i. (refl, refl);
        worn = λ i. absurd (omega tests);
      }) (λ e₁.
      by (RollbackAsked r) _ (λ e k. let x = both e in record {
        empty = λ i j z. absurd (omega tests);
        some = λ i j z s. absurd (s (eqb-true _ _ x.1));
        flat = λ i. i;
        undoing = λ i. i;
        behind = λ i. absurd (omega tests);
        worn = λ i z s. (refl, refl);
      }) (λ e₂.
      by (RollbackAsked r) _ (λ e k. let x = turn r.phase.number 9 in record {
        empty = λ i j z. (refl, x.goes i j);
        some = λ i j z. absurd (omega tests);
        flat = x.flat;
        undoing = λ i. x.stays (omega arith) ∙ i;
        behind = λ i. absurd (omega tests);
        worn = λ i z. absurd (omega tests);
      }) (λ e₃ k. let x = turn r.phase.number 8 in record {
        empty = λ i j z. absurd (omega tests);
        some = λ i j z s. (refl, x.goes i j);
        flat = x.flat;
        undoing = λ i. x.stays (omega arith) ∙ i;
        behind = λ i. absurd (omega tests);
        worn = λ i z s. clash _ (join (lt-ltb _ _ z) (eq-eqb _ _ s)) e₂;
      }))))
