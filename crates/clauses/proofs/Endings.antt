-- `commit`, `recover` and `recover_with`, clause by clause, and which error a recovery gives. Assumes nothing.
use Prim.Native.Nat.{ℕ, ◌≤◌}
use mathlib.Core.{Path.◌≡◌, Path.refl, Path.ap, Bool.true, Bool.false, Bool.not, List.List, List.[], Logic.◌≢◌, Logic.◌↔◌}
use native.Mathlib.Omega.{arith}
use lib.Dec.{eqb}
use borrow.Author.Tests.{eqb-true, le-ltb, not-true, not-false}
use Rattle.choice.specs.Pick.{pick, ◌or◌}
use Rattle.choice.proofs.{Picks.yes, Picks.no, Tests.tests, Tests.never, Tests.both, Tests.either, Tests.neither}
use Rattle.areas.specs.Areas.{area_size}
use Rattle.areas.proofs.Laws.{over, within, not_over}
use Rattle.record.specs.{Answers.Told, Answers.answer, declared.Record.Record}
use Rattle.answers.specs.{Classes.Class, Classes.Class.refusal, declared.Answer.TheVariants.Done, declared.Was.TheVariants.Three}
use Rattle.answers.specs.{declared.Refusal.TheVariants.Idle, declared.Refusal.TheVariants.NotReady}
use Rattle.wholeness.specs.{Whole.whole}
use Rattle.completeness.specs.{Complete.complete}
use Rattle.answers.specs.declared.Refusal.{Refusal}
use Rattle.bars.specs.{Bars.Bar}
use Rattle.gates.specs.{Gates.barring, Gates.long_snapshot}
use Rattle.bars.proofs.Passing.{Clear}
use Rattle.gates.proofs.Passing.{fails}
use Rattle.record.specs.Given.{opening, standing}
use Rattle.step_ends.specs.Ending.{after_commit, commit_bars, commit_own}
use Rattle.step_recoveries.specs.Recovering.{unrestored, recover_bars, recovered_to, recover_own, recover_retained_own}
use Rattle.calls.specs.{Calls.Call, Calls.step, Calls.Call.commit, Calls.Call.recover, Calls.Call.recover_retained}
use Rattle.demand_steps.specs.Typed.{Typed}
use Rattle.demand_steps.proofs.{Own.own, Reading.whole_facts, Testing.ranges}
use Rattle.clauses.specs.{Keeping.gained, Gaps.RecoverAnswer}
use Rattle.clauses.specs.Ending.{CanCommit, Committed, CommitClauses, CanRecover, Recovered, RecoverClauses}
use Rattle.clauses.proofs.Splitting.{nor, Each, Decided, decides, only, denied, keeps, still_whole, settled}
use Rattle.clauses.proofs.Splitting.Decided.{refuses, does}

-- 0 or q, and not 0
the_other : (p q : ℕ) → eqb p 0 or eqb p q ≡ true → p ≢ 0 → p ≡ q
the_other p q e n = either e (λ i. absurd (n (eqb-true _ _ i))) (λ i. eqb-true _ _ i)

-- not staged, as the calls test it, and staged
module _ (r : Record) where
  abbrev Unready : Class → Type 0
  Unready c = c ≡ refusal (pick r.staged NotReady Idle)

  is_idle : not r.staged ≡ true → Unready (refusal Idle)
  is_idle e = ap refusal (no _ (not-true _ e) refl)

  is_staged : not r.staged ≡ false → Unready (refusal NotReady)
  is_staged e = ap refusal (yes _ (not-false _ e) refl)

-- a complete batch is applied
all_applied : (r : Record) → complete r ≡ true → r.applied ≡ r.entries
unfolding complete
all_applied r e = eqb-true _ _ (both e).1

module _ (r : Record) (m : Typed (standing r)) (w : whole r ≡ true) where
  can_commit : Clear (commit_bars r) → CanCommit r
  can_commit x = let f = fails (commit_bars r) x in let y = neither (f NotReady) in
      record { staged = not-false _ (f Idle); complete = not-false _ y.0; place = not-false _ y.1 }

  committed : Decided r (Unready r) (answer (Done (Three r.accepted r.recovery r.entries)) (opening (after_commit r) r.candidate)) (commit_bars r) (step r commit)
  unfolding own commit_own
  committed = settled r commit (commit_bars r) w refl (is_idle r, λ e₁. (λ e. is_staged r e₁, λ e₂. refl))

  pub commit_clauses : CommitClauses r (step r commit)
  unfolding opening
  commit_clauses = record {
    c189 = still_whole r m w commit;
    c190 = decides committed refl can_commit (λ y. (ap not y.staged, (nor (ap not y.complete) (ap not y.place), refl)));
    c191 = λ i. (denied committed refl i).0;
    c192 = λ i. (denied committed refl i).1;
    ok = only (Committed r) committed (λ x. let y = can_commit x in record {
      c193 = λ n. let z = the_other _ _ y.place n in omega (arith, (ranges (whole_facts r m w).stage).ahead.late (omega arith) (omega arith));
      c194 = refl;
      c195 = refl;
      c196 = refl;
      c197 = refl;
      c200 = all_applied r y.complete;
      c189_record = refl;
    });
  }

  -- both recoveries: to a payload of length n, whose own refusal comes next
  module _ (n : ℕ) (next : List (Bar Refusal)) (z : Clear next ↔ (n ≤ area_size)) where
    abbrev Error : Class → Type 0
    Error c = RecoverAnswer r n c × (gained c ≡ false → Unready r c)

    can : Clear (recover_bars r next) → CanRecover r n
    unfolding unrestored
    can x = let f = fails (recover_bars r next) x in let y = neither (f NotReady) in
        record { staged = not-false _ (f Idle); empty = omega (tests, y.0); place = not-false _ y.1; fits = z.0 x.1.1 }

    clear : CanRecover r n → Clear (recover_bars r next)
    unfolding unrestored
    clear y = (ap not y.staged, (nor (le-ltb 0 r.entries (omega (arith, y.empty))) (ap not y.place), z.1 y.fits))

    answered : {t : Told} → Decided r Error (recovered_to n r) (recover_bars r next) t → RecoverAnswer r n t.class
    answered (refuses k e) = e.0
    answered (does x) = RecoverAnswer.recovers (can x)

    module _ (c : Call) (e : own r c ≡ barring (recover_bars r next) r (recovered_to n r)) (f : not r.staged ≡ false → unrestored r ≡ false → Each Error next) where
      decided : Decided r Error (recovered_to n r) (recover_bars r next) (step r c)
      unfolding unrestored
      decided = settled r c (recover_bars r next) w e
          (λ i. (RecoverAnswer.idle (not-true _ i), λ g. is_idle r i), λ e₁. (λ i. (RecoverAnswer.not_ready (not-false _ e₁) i, λ g. is_staged r e₁), f e₁))

      recovers : RecoverAnswer r n (step r c).class × RecoverClauses r n (step r c)
      unfolding opening
      recovers = let x : RecoverClauses r n (step r c) = record {
        c202 = still_whole r m w c;
        c203 = keeps (λ s. s.revision ≡ r.revision) decided refl refl;
        c204 = decides decided refl can clear;
        c205 = λ i. (denied decided refl i).0;
        error = λ i. (denied decided refl i).1.1;
        ok = only (Recovered r n) decided (λ y. record {
          c207 = λ k. let q = the_other _ _ (can y).place k in omega (arith, (ranges (whole_facts r m w).stage).behind.late (omega arith));
          c208 = refl;
          c209 = refl;
          c210 = refl;
          c202_record = refl;
        });
      } in (answered decided, x)

  module _ (n : ℕ) where
    to-snapshot : RecoverAnswer r n (step r (recover n)).class × RecoverClauses r n (step r (recover n))
    unfolding own recover_own unrestored
    to-snapshot = recovers n (long_snapshot n []) (λ x. within n x.0, λ h. (not_over n h, refl)) (recover n) refl (λ e₁ e₂. let y = neither e₂ in
        (λ e. (RecoverAnswer.long_snapshot (not-false _ e₁) (omega (tests, y.0)) (not-false _ y.1) (over n e), never), λ e₃. refl))

    pub recover-answer : RecoverAnswer r n (step r (recover n)).class
    recover-answer = to-snapshot.0

    pub recover-clauses : RecoverClauses r n (step r (recover n))
    recover-clauses = to-snapshot.1

  to_retained : RecoverAnswer r r.recovery (step r recover_retained).class × RecoverClauses r r.recovery (step r recover_retained)
  unfolding own recover_retained_own
  to_retained = recovers r.recovery [] (λ x. (whole_facts r m w).lengths.recovery, λ h. refl) recover_retained refl (λ e₁ e₂. refl)

  pub recover_retained_answer : RecoverAnswer r r.recovery (step r recover_retained).class
  recover_retained_answer = to_retained.0

  pub recover_retained_clauses : RecoverClauses r r.recovery (step r recover_retained)
  recover_retained_clauses = to_retained.1
