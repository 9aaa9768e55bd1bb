-- `poll_update` and `poll_rollback`, clause by clause: of the asking and of the report. Assumes nothing.
use Prim.Native.Nat.{ℕ, ◌<◌}
use mathlib.Core.{Path.◌≡◌, Path.refl, Path.sym, Path.◌∙◌, Path.ap, Bool.true, Bool.false, Bool.not, Logic.◌≢◌}
use native.Mathlib.Omega.{arith}
use lib.Dec.{eqb}
use borrow.Author.Tests.{ne_eqb, leb-true, not-true, not-false}
use Rattle.choice.specs.Pick.{◌or◌}
use Rattle.choice.proofs.Tests.{never, either, neither, join, no_left, no_right, tests}
use Rattle.record.specs.{Answers.Told, Fields.adopting, declared.Record.Record, declared.Outcome.Outcome, Given.standing}
use Rattle.answers.specs.{Classes.taken, Classes.Class.refusal, Classes.Class.stepping, Classes.StepAnswer.finished}
use Rattle.answers.specs.{declared.Refusal.TheVariants.Recovering}
use Rattle.wholeness.specs.Whole.{whole}
use Rattle.completeness.specs.Complete.{complete}
use Rattle.step_asks.specs.Asks.{ask_update_own}
use Rattle.step_rollbacks.specs.Rollbacks.{turned, ask_rollback_own}
use Rattle.step_updates.specs.Updates.{update_done, report_update_bars, report_update_own}
use Rattle.step_undos.specs.Undos.{leaving, rollback_done, report_rollback_bars, report_rollback_own}
use Rattle.calls.specs.{Calls.step, Calls.Work.update, Calls.Work.rollback, Calls.Report.updated, Calls.Report.rolledBack, Calls.Call.ask, Calls.Call.report}
use Rattle.demand_steps.specs.Typed.{Typed}
use Rattle.demand_steps.proofs.{Own.own, Reading.whole_facts, Testing.ranges, Wholeness.updates_test, Tickets.on_update, Tickets.on_rollback}
use Rattle.clauses.specs.{Keeping.gained, Keeping.SameStaged, Keeping.Framed, Polls.unfinished, Polls.UpdateClauses, Polls.RollbackClauses}
use Rattle.clauses.proofs.Splitting.{clash, nope, differ, unended, beyond, by, past, outcomes, on_step}

-- 0 or 5, and neither
astray : {P : Type 0} (p : ℕ) → eqb p 0 or eqb p 5 ≡ true → p ≢ 0 → p ≢ 5 → P
astray p e y z = either e (λ i. absurd (omega tests)) (λ i. absurd (omega tests))

module _ (r : Record) (m : Typed (standing r)) (w : whole r ≡ true) where
  abbrev Updates : Told → Type 0
  Updates = UpdateClauses r

  -- in the phases 0 and 5
  placed : {t : Told} → eqb r.phase.number 0 or eqb r.phase.number 5 ≡ true → Framed r t × SameStaged r t.state × (t.state.entries ≡ r.entries) →
      (t.class ≡ stepping finished → complete t.state ≡ true) → (unfinished t.class ≡ true → complete t.state ≡ false) → Updates t
  placed h x f g = record { c76 = astray _ h; c77 = λ y z i. astray _ h y z; framed = x.0; c92 = x.1; c93 = x.2; c95 = f; c96 = λ i. g }

  -- a refusal
  refuses : {t : Told} → Framed r t × SameStaged r t.state → t.state ≡ r → taken t.class ≡ false → (gained t.class ≡ false → t.class ≡ refusal Recovering) →
      (eqb r.phase.number 0 or eqb r.phase.number 5 ≡ true → unfinished t.class ≡ true → complete t.state ≡ false) → Updates t
  refuses x s n g f =
      record { c76 = λ y z. s; c77 = λ y z. g; framed = x.0; c92 = x.1; c93 = ap (λ (q : Record). q.entries) s; c95 = unended n; c96 = f }

  pub update_asked_lem : Updates (step r (ask update))
  unfolding own ask_update_own adopting complete
  update_asked_lem = on_step r m w (ask update) Updates
      (by Updates _ (λ e k. refuses (search) refl refl (λ g. refl) (λ i j. either e (λ n. clash _ i (not-true _ n)) (λ n. no_left _ (ap not n)))) (λ e₁. let x = neither e₁ in let h = not-false _ x.0 in
      by Updates _ (λ e k. placed h (search) (λ i. join (ap not x.1) e) nope) (λ e₂.
      by Updates _ (λ e k. placed h (search) (unended refl) nope)
      (λ e₃ k. placed h (search) (unended refl) (λ i. no_right _ e₂)))))

  module _ (t : ℕ) (x : Outcome) where
    pub update-reported : Updates (step r (report updated t x))
    unfolding own report_update_own update_done adopting complete
    update-reported = on_step r m w (report updated t x) Updates
        (past Updates r (λ why g k. refuses (search) refl refl (clash _ g) (λ i j. clash _ j (beyond why g))) (report_update_bars r t) refl (λ e.
        let v = whole_facts r m w in let y = on_update v (not-false _ e.0) in let h = updates_test _ y.place in
        outcomes Updates x
        (λ a vs n k. placed h (search) (unended n) (λ i. no_right _ (ne_eqb _ _ (λ (j : r.applied ≡ r.entries). omega (arith, v.size, y.tried)))))
        (by Updates _ (λ d k. placed h (search) (λ i. join (ap not y.ahead) d) nope) (λ d k. placed h (search) (differ refl) nope))))

  abbrev Rollbacks : Told → Type 0
  Rollbacks = RollbackClauses r

  restores : {t : Told} → Framed r t × SameStaged r t.state → t.state.restoring ≡ true → (t.class ≡ stepping finished → t.state.entries ≡ 0) →
      (t.class ≢ stepping finished → 0 < t.state.entries) → Rollbacks t
  restores x v f g =
      record { framed = x.0; c103 = x.1; c104 = λ i. v; c105 = f; c106 = λ u. g (λ i. never (sym u ∙ ap unfinished i)); c100_more = λ i. g (λ j. differ refl (sym i ∙ j)) }

  -- a refusal that a clause gains
  stays : {t : Told} → Framed r t × SameStaged r t.state → gained t.class ≡ true → unfinished t.class ≡ false → taken t.class ≡ false → Rollbacks t
  stays x g u n =
      record { framed = x.0; c103 = x.1; c104 = clash _ g; c105 = unended n; c106 = λ i. clash _ i u; c100_more = λ i. clash _ (ap taken i) n }

  pub rollback_asked : Rollbacks (step r (ask rollback))
  unfolding own ask_rollback_own turned
  rollback_asked = let x = (ranges (whole_facts r m w).stage).turned in on_step r m w (ask rollback) Rollbacks
      (by Rollbacks _ (λ e k. restores (search) (x.behind (omega tests)) (λ i. x.empty (leb-true _ _ e)) (λ n. absurd (n refl))) (λ e₁.
      by Rollbacks _ (λ e k. stays (search) refl refl refl) (λ e₂.
      by Rollbacks _ (λ e k. restores (search) refl (λ i. omega tests) (λ n. absurd (n refl)))
      (λ e₃ k. restores (search) refl (unended refl) (λ i. omega tests)))))

  module _ (t : ℕ) (x : Outcome) where
    pub rollback-reported : Rollbacks (step r (report rolledBack t x))
    unfolding own report_rollback_own rollback_done leaving
    rollback-reported = on_step r m w (report rolledBack t x) Rollbacks
        (past Rollbacks r (λ why g k. stays (search) g (beyond why g) refl) (report_rollback_bars r t) refl (λ e.
        let y = on_rollback (whole_facts r m w) (not-false _ e.0) in
        outcomes Rollbacks x (λ a vs n k. restores (search) y.behind (unended n) (λ i. y.some))
        (by Rollbacks _ (λ d k. restores (search) y.behind (λ i. omega tests) (λ n. absurd (n refl)))
        (λ d k. restores (search) y.behind (differ refl) (λ n. omega tests)))))
