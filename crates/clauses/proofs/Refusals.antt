-- Any call on any record: a refusal returns the record equal, and a record that is not whole is refused 7, which is what is left of the
-- upstream preconditions `wf()`. A report by its outcome: Waiting and Failed answer so and do nothing but spend the ticket and store the
-- payloads, and no other ticket than the live one is taken. Assumes nothing.
use Prim.Native.Nat.{ℕ, ◌≤◌}
use mathlib.Core.{Path.◌≡◌, Path.refl, Path.sym, Path.◌∙◌, Path.ap, Bool.true, Bool.false, Bool.not, List.[]}
use Rattle.choice.proofs.Picks.{yes, no}
use Rattle.areas.specs.Areas.{area_size}
use Rattle.record.specs.{Answers.Told, Given.effect_of, Fields.spent, declared.Record.Record, declared.Outcome.Outcome}
use Rattle.answers.specs.{Classes.refused, Classes.Class.refusal, declared.Refusal.TheVariants.Damaged}
use Rattle.tickets.specs.Live as Tickets
use Rattle.record.specs.declared.Outcome.TheVariants as O
use Rattle.wholeness.specs.{Whole.whole}
use Rattle.gates.specs.{Gates.barring, Gates.long_payloads}
use Rattle.gates.proofs.Passing.{payloads_pass}
use Rattle.reporting.specs.Reporting.{stale, reported}
use Rattle.step_structure.specs.Structure.{structure_done, storing, report_structure_own}
use Rattle.step_updates.specs.Updates.{update_done, report_update_own}
use Rattle.step_undos.specs.Undos.{rollback_done, report_rollback_own}
use Rattle.calls.specs.{Calls.Call, Calls.step, Calls.AnyCall.calls, Calls.Report.structured, Calls.Report.updated, Calls.Report.rolledBack, Calls.Call.report}
use Rattle.demand_refusals.specs.Refusals.{returned}
use Rattle.demand_refusals.proofs.ExactRefusals.{refusal-returns}
use Rattle.demand_steps.proofs.{Own.own, Own.whole_step, Own.damaged_step, Testing.not_yes}
use Rattle.clauses.specs.Polls.{ReportAnswers}

module _ (r : Record) where
  -- demand 1: "A refusal .. returns the record equal"
  pub refused_equal : (c : Call) → refused (step r c).class ≡ true → (step r c).state ≡ r
  unfolding returned
  refused_equal c = refusal-returns true true r (calls c)

  -- "`wf` preconditions answer 7"
  pub damaged_clause : (c : Call) → whole r ≡ false → ((step r c).class ≡ refusal Damaged) × ((step r c).state ≡ r)
  damaged_clause c w = rw (damaged_step r c w) (refl, refl)

  -- behind its gate, where no other refusal is given
  reports : (work ticket : ℕ) (s : Record) (done : Told) (rest : Told → Told) → ((u : Told) → rest u ≡ u) → (tells : Outcome → Told) →
      ((x : Outcome) → tells x ≡ barring (stale work ticket r []) r (rest (reported (effect_of x) s done))) → ReportAnswers work ticket r s tells
  unfolding reported
  reports work ticket s done rest g tells f = record {
    c80 = λ e. f O.Waiting ∙ sym (no _ (ap not e) (sym (g _)));
    c81 = λ code e. f (O.Failed code) ∙ sym (no _ (ap not e) (sym (g _)));
    c240 = λ x e. f x ∙ sym (yes _ (not_yes _ e) refl);
  }

  module _ (w : whole r ≡ true) (ticket : ℕ) where
    pub update-outcomes : ReportAnswers Tickets.update ticket r (spent r) (λ x. step r (report updated ticket x))
    unfolding own report_update_own
    update-outcomes = reports Tickets.update ticket (spent r) (update_done (spent r)) (λ u. u) (λ u. refl) _ (λ x. whole_step r (report updated ticket x) w)

    pub rollback-outcomes : ReportAnswers Tickets.rollback ticket r (spent r) (λ x. step r (report rolledBack ticket x))
    unfolding own report_rollback_own
    rollback-outcomes = reports Tickets.rollback ticket (spent r) (rollback_done (spent r)) (λ u. u) (λ u. refl) _ (λ x. whole_step r (report rolledBack ticket x) w)

    -- payloads that fit are refused neither 14 nor 15
    pub structure_outcomes : (c o : ℕ) → c ≤ area_size → o ≤ area_size →
        ReportAnswers Tickets.structure ticket r (spent (storing c o r)) (λ x. step r (report (structured c o) ticket x))
    unfolding own report_structure_own
    structure_outcomes c o p q = let s : Record = spent (storing c o r) in
        reports Tickets.structure ticket s (structure_done s) (barring (long_payloads c o []) r) (λ u. payloads_pass [] r u p q) _ (λ x. whole_step r (report (structured c o) ticket x) w)
