-- Document 01, "Open": "accepted payload copied, all else as after a commit"; and after both recoveries, alike. Assumes nothing.
use Prim.Native.Nat.{ℕ}
use mathlib.Core.Path.{◌≡◌, refl, sym, subst}
use mathlib.Core.Bool.{true}
use mathlib.Core.List.{List, []}
use Rattle.choice.proofs.Tests.{never}
use Rattle.answers.specs.Classes.{successful}
use Rattle.record.specs.Answers.{Told}
use Rattle.record.specs.declared.Record.{Record}
use Rattle.answers.specs.declared.Refusal.{Refusal}
use Rattle.bars.specs.Bars.{Bar}
use Rattle.gates.specs.Gates.{barring, long_snapshot}
use Rattle.step_opens.specs.Opening.{opening}
use Rattle.step_ends.specs.Ending.{after_commit, commit_bars, commit_own}
use Rattle.step_recoveries.specs.Recovering.{after_recovery, recover_bars, recover_own, recover_retained_own}
use Rattle.calls.specs.Calls.{Call, step}
use Rattle.calls.specs.Calls.Call.{commit, recover, recover_retained}
use Rattle.demand_steps.proofs.Own.{own, row, answers}

abbrev Opens : Record → Told → Type 0
Opens to x = successful x.class ≡ true → x.state ≡ to

module _ (r : Record) where
  ends : {to : Record} (c : Call) (bs : List (Bar Refusal)) (done : Told) → own r c ≡ barring bs r done → done.state ≡ to → Opens to (step r c)
  ends {to} c bs done e p =
      answers (Opens to) r (λ why h. never (sym h)) true true c (λ w. subst (Opens to) (sym e) (row (Opens to) r (λ why h. never (sym h)) bs (λ x h. p)))

  pub commit_opens : successful (step r commit).class ≡ true → (step r commit).state ≡ opening (after_commit r) r.candidate
  unfolding own commit_own
  commit_opens = ends commit (commit_bars r) _ refl refl

  pub recover_opens : (n : ℕ) → successful (step r (recover n)).class ≡ true → (step r (recover n)).state ≡ opening (after_recovery r) n
  unfolding own recover_own
  recover_opens n = ends (recover n) (recover_bars r (long_snapshot n [])) _ refl refl

  pub recover_retained_opens : successful (step r recover_retained).class ≡ true → (step r recover_retained).state ≡ opening (after_recovery r) r.recovery
  unfolding own recover_retained_own
  recover_retained_opens = ends recover_retained (recover_bars r []) _ refl refl
