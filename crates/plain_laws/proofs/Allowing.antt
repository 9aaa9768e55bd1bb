-- Commit and recovery are allowed by the engine exactly where the record allows them, and its counts tell what the reports were for: the
-- chain theorems say so of the watcher. Assumes nothing.
use Prim.Native.Nat.{ℕ}
use mathlib.Core.Path.{◌≡◌, refl, sym, ◌∙◌, ap}
use mathlib.Core.Bool.{Bool, true, false, not}
use lib.Dec.{eqb}
use lib.ListN.{length}
use Rattle.choice.specs.Pick.{pick, ◌and◌, ◌or◌}
use Rattle.choice.proofs.Tests.{test}
use Rattle.answers.specs.Classes.{successful}
use Rattle.record.specs.Answers.{Told, refuse}
use Rattle.record.specs.declared.Record.{Record}
use Rattle.answers.specs.declared.Refusal.TheVariants.{Idle, NotReady}
use Rattle.completeness.specs.Complete.{complete}
use Rattle.step_ends.specs.Ending.{commit_own}
use Rattle.step_recoveries.specs.Recovering.{unrestored, recover_retained_own}
use Rattle.calls.specs.Calls.{step}
use Rattle.calls.specs.Calls.Call.{commit, recover_retained}
use Rattle.demand_steps.specs.Knowing.{Watch}
use Rattle.demand_steps.proofs.Own.{own}
use Rattle.demand_chains.specs.Plans.{back_at, firsts}
use Rattle.demand_chains.proofs.Chain.{undamaged}
use Rattle.demand_chains.proofs.Exactly.{forward_law, backward_law}
use Rattle.demand_chains.proofs.Recovering.{early_exact}
use Rattle.plain.specs.declared.Taken.{Taken}
use Rattle.plain.specs.Plain.{is_done, is_back, commit_allowed, recovery_allowed}
use Rattle.plain_laws.specs.Known.{Ordered}
use Rattle.plain_laws.proofs.Knowing.{Agrees, knows, running, turned}

-- the test under which a commit that runs is refused 4
abbrev pub incomplete : Record → Bool
incomplete r = not (complete r) or not (eqb r.phase.number 0 or eqb r.phase.number 7)

-- 2, and then 4 if u
record Closes (s u : Bool) (x : Told) : Type 0 where
  done : successful x.class ≡ s and not u
  zero : eqb x.number 0 ≡ s and not u

closes : (s u : Bool) (r : Record) (x : Told) → successful x.class ≡ true → eqb x.number 0 ≡ true →
    Closes s u (pick (not s) (refuse Idle r) (pick u (refuse NotReady r) x))
unfolding pick ◌and◌
closes true true r x h i = record { done = refl; zero = refl }
closes true false r x h i = record { done = h; zero = i }
closes false u r x h i = record { done = refl; zero = refl }

module _ {t : Taken} {w : Watch} {r : Record} (x : Agrees t w r) where
  committing : Closes r.staged (incomplete r) (step r commit)
  unfolding own commit_own
  committing = rw (undamaged commit x.good.is_whole) (closes r.staged (incomplete r) r _ refl refl)

  recovering : Closes r.staged (unrestored r) (step r recover_retained)
  unfolding own recover_retained_own
  recovering = rw (undamaged recover_retained x.good.is_whole) (closes r.staged (unrestored r) r _ refl refl)

  commit_succeeds : commit_allowed t ≡ successful (step r commit).class
  unfolding commit_allowed is_done complete ◌and◌ ◌or◌
  commit_succeeds =
      test r.staged
      (λ s. let runs = running x ∙ s in let g = x.good in
      test r.restoring
      (λ v. simp (runs, turned x, v) (sym (committing.done ∙ simp (s, v))))
      (λ v. simp (runs, turned x, v) (rw ((knows x).structural, (knows x).size, (knows x).done) (sym (forward_law w r g (sym (knows x).running ∙ runs) (sym (knows x).turned ∙ turned x ∙ v)).exact))))
      (λ s. simp (running x, s) (sym (committing.done ∙ rw s)))

  recovery_succeeds : recovery_allowed t ≡ successful (step r recover_retained).class
  unfolding recovery_allowed is_back pick ◌and◌
  recovery_succeeds =
      test r.staged
      (λ s. let runs = running x ∙ s in let i = sym (knows x).running ∙ runs in let g = x.good in
      test r.restoring
      (λ v. simp (runs, turned x, v) (rw ((knows x).structural, (knows x).started, (knows x).undone) (sym (backward_law w r g i (sym (knows x).turned ∙ turned x ∙ v)).exact)))
      (λ v. simp (runs, turned x, v) (rw ((knows x).structural, (knows x).size) (sym (early_exact w r g i (sym (knows x).turned ∙ turned x ∙ v))))))
      (λ s. simp (running x, s) (sym (recovering.done ∙ rw s)))

  pub commit_test : commit_allowed t ≡ r.staged and not (incomplete r)
  commit_test = commit_succeeds ∙ committing.done

  pub recovery_test : recovery_allowed t ≡ r.staged and not (unrestored r)
  recovery_test = recovery_succeeds ∙ recovering.done

  -- so that the call would answer 0
  pub commit_same : commit_allowed t ≡ eqb (step r commit).number 0
  commit_same = commit_test ∙ sym committing.zero

  pub recovery_same : recovery_allowed t ≡ eqb (step r recover_retained).number 0
  recovery_same = recovery_test ∙ sym recovering.zero

  -- the reports were taken in the order of the plans
  pub ordered : Ordered t w
  ordered =
      let k = knows x in
      record {
        forward = λ i v. rw (k.structural, k.size, k.done) (forward_law w r x.good (sym k.running ∙ i) (sym k.turned ∙ v)).order;
        back = λ i v.
            (backward_law w r x.good (sym k.running ∙ i) (sym k.turned ∙ v)).order
            ∙ ap (λ (g : ℕ). firsts (back_at g) (length w.undone)) (sym k.started) ∙ ap (firsts (back_at t.started)) (sym k.undone);
      }
