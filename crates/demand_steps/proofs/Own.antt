-- Every call is its own behind a gate: on a whole record it is the call's own, and on any other it is refused as Damaged; and what
-- holds of refusals and of what a call does where none is given holds of the call. Assumes nothing.
use mathlib.Core.Path.{◌≡◌, refl, sym, ◌∙◌, subst}
use mathlib.Core.Bool.{Bool, true, false, not}
use mathlib.Core.List.{List, [], ◌∷◌}
use Rattle.std.specs.Prelude.{Ok}
use Rattle.choice.specs.Pick.{pick, ◌and◌}
use Rattle.choice.proofs.Picks.{picked}
use Rattle.answers.specs.Answers.{Said, says}
use Rattle.record.specs.Answers.{Told, told, refuse}
use Rattle.record.specs.declared.Record.{Record}
use Rattle.answers.specs.declared.Answer.TheVariants.{Refused}
use Rattle.answers.specs.declared.Refusal.{Refusal}
use Rattle.answers.specs.declared.Refusal.TheVariants.{Damaged, Pending}
use Rattle.wholeness.specs.Whole.{whole}
use Rattle.bars.specs.Bars.{Bar}
use Rattle.gates.specs.Gates.{gate_of, gated, barring}
use Rattle.gates.proofs.Passing.{Gate}
use Rattle.std.specs.Prelude.{Ok, Err}
use Rattle.bars.proofs.Passing.{Clear}
use Rattle.gates.proofs.Passing.{passed, Fails, fails}
use Rattle.step_begins.specs.Beginning.{begin_own, edit_own}
use Rattle.step_asks.specs.Asks.{ask_structure_own, ask_update_own}
use Rattle.step_rollbacks.specs.Rollbacks.{ask_rollback_own}
use Rattle.step_structure.specs.Structure.{report_structure_own}
use Rattle.step_updates.specs.Updates.{report_update_own}
use Rattle.step_undos.specs.Undos.{report_rollback_own}
use Rattle.step_ends.specs.Ending.{commit_own, refresh_own}
use Rattle.step_recoveries.specs.Recovering.{recover_own, recover_retained_own}
use Rattle.step_stamps.specs.Stamping.{says_stamping, says_checked, stamp_of, stamp_step, passes, check_step}
use Rattle.calls.specs.Calls.{Call, step_with, step}
use Rattle.calls.specs.Calls.Work.{structure, update, rollback}
use Rattle.calls.specs.Calls.Report.{structured, updated, rolledBack}
use Rattle.calls.specs.Calls.Call.{begin, ask, report, edit, commit, recover, recover_retained, refresh, stamp, check}

-- what a call does behind its gate
unfoldable pub own : Record → Call → Told
own r (begin structural b) = begin_own structural r b
own r (ask structure) = ask_structure_own r
own r (ask update) = ask_update_own r
own r (ask rollback) = ask_rollback_own r
own r (report (structured c o) t x) = report_structure_own r t x c o
own r (report updated t x) = report_update_own r t x
own r (report rolledBack t x) = report_rollback_own r t x
own r (edit c o) = edit_own r c o
own r commit = commit_own r
own r (recover n) = recover_own r n
own r recover_retained = recover_retained_own r
own r (refresh n) = refresh_own r n
own r (stamp domain) = pick r.staged (refuse Pending r) (told (says_stamping (Ok (stamp_of domain r))) r)
own r (check domain s) = pick (passes r domain s) (told (says_checked (Ok true)) r) (told (says_checked (Ok false)) r)

-- the gate is that of what the call is lent, and of stamps and checks, which are lent nothing, the gate for 7 alone
pub data Behind (sized sound : Bool) (r : Record) (c : Call) : Type 0 where
  lent : step_with sized sound r c ≡ gated (gate_of sized sound r) r (own r c) → Behind sized sound r c
  unlent : step_with sized sound r c ≡ gated (gate_of true true r) r (own r c) → Behind sized sound r c

module _ (r : Record) where
  unlent_by : (w b : Bool) (x y : Said) →
      told (pick (not w) (says (Refused Damaged)) (pick b x y)) r ≡ gated (pick w (Ok tt) (Err Damaged)) r (pick b (told x r) (told y r))
  unfolding pick gated
  unlent_by true true x y = refl
  unlent_by true false x y = refl
  unlent_by false b x y = refl

  pub behind : (sized sound : Bool) (c : Call) → Behind sized sound r c
  unfolding own gate_of pick ◌and◌ stamp_step check_step
  behind sized sound (begin structural b) = lent refl
  behind sized sound (ask structure) = lent refl
  behind sized sound (ask update) = lent refl
  behind sized sound (ask rollback) = lent refl
  behind sized sound (report (structured c o) t x) = lent refl
  behind sized sound (report updated t x) = lent refl
  behind sized sound (report rolledBack t x) = lent refl
  behind sized sound (edit c o) = lent refl
  behind sized sound commit = lent refl
  behind sized sound (recover n) = lent refl
  behind sized sound recover_retained = lent refl
  behind sized sound (refresh n) = lent refl
  behind sized sound (stamp domain) = unlent (unlent_by (whole r) r.staged _ _)
  behind sized sound (check domain s) = unlent (unlent_by (whole r) (passes r domain s) _ _)

  step_is : {c : Call} → Behind true true r c → step r c ≡ gated (gate_of true true r) r (own r c)
  step_is (lent e) = e
  step_is (unlent e) = e

  pub whole_step : (c : Call) → whole r ≡ true → step r c ≡ own r c
  unfolding gate_of gated pick ◌and◌
  whole_step c h = step_is (behind true true c) ∙ rw h

  pub damaged_step : (c : Call) → whole r ≡ false → step r c ≡ refuse Damaged r
  unfolding gate_of gated pick ◌and◌
  damaged_step c h = step_is (behind true true c) ∙ rw h

module _ (P : Told → Type 0) (r : Record) (refuses : (why : Refusal) → P (refuse why r)) where
  -- a call's own refusals in a row, and what is done where none is given: where the test of each, by its name, fails
  in_row : (bs : List (Bar Refusal)) {done : Told} → (Clear bs → P done) → P (barring bs r done)
  in_row [] f = f refl
  in_row (b ∷ bs) f = picked P b.test (λ e. refuses b.why) (λ e. in_row bs (λ x. f (e, x)))

  pub row : (bs : List (Bar Refusal)) {done : Told} → (Fails bs → P done) → P (barring bs r done)
  row bs f = in_row bs (λ x. f (fails bs x))

  at_gate : {done : Told} (g : Gate) → (g ≡ Ok tt → P done) → P (gated g r done)
  unfolding gated
  at_gate (Ok u) f = f refl
  at_gate (Err why) f = refuses why

  -- a call, whatever it is lent
  by_gate : {sized sound : Bool} {c : Call} → Behind sized sound r c → (whole r ≡ true → P (own r c)) → P (step_with sized sound r c)
  by_gate (lent e) f = subst P (sym e) (at_gate _ (λ h. f (passed _ _ r refl h).is_whole))
  by_gate (unlent e) f = subst P (sym e) (at_gate _ (λ h. f (passed _ _ r refl h).is_whole))

  pub answers : (sized sound : Bool) (c : Call) → (whole r ≡ true → P (own r c)) → P (step_with sized sound r c)
  answers sized sound c = by_gate (behind r sized sound c)
