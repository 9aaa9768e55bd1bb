-- `poll_structure`, clause by clause: of the asking and of the report. Assumes nothing.
use Prim.Native.Nat.{ℕ}
use mathlib.Core.{Path.◌≡◌, Path.refl, Path.ap, Bool.true, Bool.false, Logic.◌≢◌}
use borrow.Author.Tests.{not-false}
use Rattle.choice.proofs.Tests.{test}
use Rattle.phases.specs.{Phases.has_successor, Phases.boundary, declared.Phase.Phase}
use Rattle.record.specs.{Answers.Told, declared.Record.Record, declared.Outcome.Outcome, Given.standing}
use Rattle.answers.specs.{Classes.Class, Classes.refused, Classes.Class.refusal, Classes.StepAnswer.finished, declared.Refusal.TheVariants.NotReady}
use Rattle.tickets.specs.{Live.is_live}
use Rattle.tickets.specs.Live as Tickets
use Rattle.wholeness.specs.Whole.{whole}
use Rattle.step_asks.specs.Asks.{ask_structure_own}
use Rattle.step_structure.specs.Structure.{structure_done, report_structure_bars, report_structure_own}
use Rattle.calls.specs.{Calls.step, Calls.Work.structure, Calls.Report.structured, Calls.Call.ask, Calls.Call.report}
use Rattle.demand_steps.specs.Typed.{Typed}
use Rattle.demand_steps.proofs.{Own.own, Reading.whole_facts, Reading.apart_of, Testing.ranges}
use Rattle.clauses.specs.{Keeping.gained, Keeping.SameBatch, Keeping.Framed, Polls.unfinished, Structure.StructureClauses, Structure.Advances}
use Rattle.clauses.proofs.Splitting.{clash, differ, unended, by, past, outcomes, on_step}
use Rattle.clauses.proofs.Onward.{calm_staged, no_successor, at_boundary, has_one, succeeds, onwards, stepping_on}

-- not the refusal 4
ready : {c : Class} → refused c ≡ false → c ≢ refusal NotReady
ready n e = clash _ (ap refused e) n

module _ (r : Record) (m : Typed (standing r)) (w : whole r ≡ true) where
  abbrev Clauses : Told → Type 0
  Clauses = StructureClauses r

  idle : r.staged ≡ false → has_successor r.phase.number ≡ false
  idle e = test (has_successor r.phase.number) (λ s. clash _ (calm_staged (whole_facts r m w).calm (apart_of _ s).not0) e) (λ n. n)

  -- the phase stays
  stands : {t : Told} → Framed r t × SameBatch r t.state × (t.state.staged ≡ r.staged) →
      (t.state.phase ≡ r.phase) × (t.state.forward ≡ r.forward) × (t.state.back ≡ r.back) →
      (has_successor r.phase.number ≡ true → t.class ≢ refusal NotReady) → (has_successor r.phase.number ≡ false → t.state ≡ r) →
      (t.class ≡ Class.stepping finished → boundary r.phase.number ≡ true) → Clauses t
  stands x y f g b =
      let p = ap (λ (q : Phase). q.number) y.0 in
      record {
        c79 = x.2;
        c83 = f;
        c84 = g;
        c84_idle = idle;
        framed = x.0;
        c174 = x.1;
        c175 = λ i. y.0;
        stepping = record {
          c176 = λ n. absurd (n p);
          c177 = λ n. absurd (n p);
          c178 = λ n. absurd (n p);
          c179 = λ n. absurd (n p);
          c181 = λ n. absurd (n y.1);
          c182 = λ n. absurd (n y.1);
          c183 = λ n. absurd (n y.1);
          c184 = λ n. absurd (n y.2);
          c185 = λ n. absurd (n y.2);
          c186 = λ n. absurd (n y.2);
        };
        c187 = λ i. rw p (b i);
      }

  pub structure_asked_lem : Clauses (step r (ask structure))
  unfolding own ask_structure_own
  structure_asked_lem = on_step r m w (ask structure) Clauses
      (by Clauses _ (λ e k. stands (search) (search) (no_successor _ e) (λ i. refl) (unended refl)) (λ e₁.
      by Clauses _ (λ e k. stands (search) (search) (λ i. ready refl) (λ i. refl) (λ i. at_boundary _ e)) (λ e₂.
      by Clauses _ (λ e k. stands (search) (search) (λ i. differ refl) (λ i. refl) (unended refl))
      (λ e₃ k. stands (search) (search) (λ i. ready refl) (λ i. clash _ (has_one _ (ranges (whole_facts r m w).stage).bound e₁ e₂) i) (unended refl)))))

  -- what a Done report answers, and the record that it leaves
  goes : (t : ℕ) → is_live Tickets.structure t r.live ≡ true → {u : Told} → Advances r u.state → whole u.state ≡ true → refused u.class ≡ false →
      unfinished u.class ≡ false → (u.class ≡ Class.stepping finished → boundary u.state.phase.number ≡ true) → Clauses u
  goes t l x k n u b = record {
    c79 = x.staged;
    c83 = λ i. ready n;
    c84 = clash _ (succeeds r m w t l);
    c84_idle = idle;
    framed = record { wf = k; accepted = x.accepted; version = x.version };
    c174 = x.batch;
    c175 = λ i. clash _ i u;
    stepping = stepping_on r m w t l x;
    c187 = b;
  }

  pub structure_reported : (t : ℕ) (x : Outcome) (c o : ℕ) → Clauses (step r (report (structured c o) t x))
  unfolding own report_structure_own structure_done
  structure_reported t x c o = on_step r m w (report (structured c o) t x) Clauses
      (past Clauses r (λ why g k. stands (search) (search) (λ i j. clash _ g (ap gained j)) (λ i. refl) (unended refl)) (report_structure_bars r t c o) refl (λ e.
      let l = not-false _ e.0 in
      outcomes Clauses x (λ a vs n k. stands (search) (search) (λ i. ready refl) (clash _ (succeeds r m w t l)) (unended n))
      (by Clauses _ (λ b k. goes t l (onwards r m w t l c o) k refl refl (λ i. b)) (λ b k. goes t l (onwards r m w t l c o) k refl refl (differ refl)))))
