-- The opening and every call on a record fit their rows: each answer is given exactly when its row says, and a refusal returns the
-- record that was given; and the rows' numbers are those that are listed. Assumes nothing.
use Prim.Native.Nat.{ℕ, ◌+◌}
use mathlib.Core.Path.{◌≡◌, refl, ap, subst}
use mathlib.Core.Bool.{Bool, true, false, not}
use mathlib.Core.List.{List, [], ◌∷◌}
use borrow.Author.Tests.{not-false}
use Rattle.choice.specs.Pick.{pick, ◌and◌, ◌or◌}
use Rattle.choice.proofs.Tests.{both}
use Rattle.phases.specs.Phases.{has_successor, successor, boundary}
use Rattle.answers.specs.Classes.{refusal_number, number_of, refused}
use Rattle.answers.specs.Classes.Class.{performed}
use Rattle.record.specs.Answers.{Told, told, answer, refuse}
use Rattle.record.specs.Given.{effect_of}
use Rattle.record.specs.Fields.{spent}
use Rattle.record.specs.declared.Record.{Record}
use Rattle.answers.specs.declared.Answer.TheVariants.{More, Finished}
use Rattle.record.specs.declared.Outcome.{Outcome}
use Rattle.record.specs.declared.Outcome.TheVariants as O
use Rattle.answers.specs.declared.Refusal.{Refusal}
use Rattle.answers.specs.declared.Refusal.TheVariants.{NotReady, Recovering, BadArea, Damaged, Worn}
use Rattle.log_layout.specs.Kinds.{reports}
use Rattle.wholeness.specs.Whole.{whole}
use Rattle.bars.specs.Bars.{Bar}
use Rattle.gates.specs.Gates.{gate_of, gated, barring, long_snapshot}
use Rattle.std.specs.Prelude.{Ok, Err}
use Rattle.wholeness.proofs.Facts.{parts, live_structure}
use Rattle.bars.proofs.Passing.{Clear}
use Rattle.step_opens.specs.Opening.{unopened, open_bars, open_step}
use Rattle.step_begins.specs.Beginning.{begin_bars, begin_own, edit_bars, edit_own}
use Rattle.step_asks.specs.Asks.{ask_structure_own, ask_update_own}
use Rattle.step_rollbacks.specs.Rollbacks.{ask_rollback_own}
use Rattle.reporting.specs.Reporting.{reported}
use Rattle.step_structure.specs.Structure.{onward, advanced, structure_done, storing, report_structure_bars, report_structure_own}
use Rattle.step_updates.specs.Updates.{update_done, report_update_bars, report_update_own}
use Rattle.step_undos.specs.Undos.{rollback_done, report_rollback_bars, report_rollback_own}
use Rattle.step_ends.specs.Ending.{commit_bars, commit_own, refresh_bars, refresh_own}
use Rattle.step_recoveries.specs.Recovering.{unrestored, recover_bars, recover_own, recover_retained_own}
use Rattle.step_stamps.specs.Stamping.{stamp_step, check_step}
use Rattle.calls.specs.Calls.{AnyCall, step_of}
use Rattle.calls.specs.Calls.Work.{structure, update, rollback}
use Rattle.calls.specs.Calls.Report.{structured, updated, rolledBack}
use Rattle.calls.specs.Calls.Call.{begin, ask, report, edit, commit, recover, recover_retained, refresh, stamp, check}
use Rattle.calls.specs.Calls.AnyCall.{opens, calls}
use Rattle.calls.specs.Kinds.{kind_of, kind_of_any}
use Rattle.demand_refusals.specs.Rows.{Row, ◌when◌, among, distinct}
use Rattle.demand_refusals.specs.Refusals.{returned, gate_rows, done_rows, report_rows, rows, numbers_of}
use Rattle.demand_refusals.proofs.Rows.{View, Fits, now, later, row, last, around, alike, over}
use Rattle.demand_refusals.proofs.Rows.Leaf.{stays, goes}
use Rattle.demand_refusals.proofs.OneRow.{Listed}

-- what is told, where a refusal is to return the record r
abbrev pub telling : Record → View Told
telling r = record { class = λ t. t.class; number = λ t. t.number; same = λ t. t.state ≡ r }

-- the rows of a call's own refusals
abbrev bar_rows : List (Bar Refusal) → List Row → List Row
bar_rows [] rest = rest
bar_rows (b ∷ bs) rest = refusal_number b.why when b.test ∷ bar_rows bs rest

module _ (r : Record) where
  abbrev Tells : Told → List Row → Type 0
  Tells t rows = Fits (telling r) t rows

  refuses : (why : Refusal) (b : Bool) {y : Told} {rest : List Row} → Tells y rest → Tells (pick b (refuse why r) y) (refusal_number why when b ∷ rest)
  refuses why b f = row b (stays refl refl refl) (λ _. f)

  bars : (bs : List (Bar Refusal)) {done : Told} {rest : List Row} → (Clear bs → Tells done rest) → Tells (barring bs r done) (bar_rows bs rest)
  bars [] f = f refl
  bars (b ∷ bs) f = row b.test (stays refl refl refl) (λ e. bars bs (λ x. f (e, x)))

  -- the gate's refusals 6 and 7, before what an open gate gives
  gate : {own : Told} {rest : List Row} (sized sound : Bool) → (whole r ≡ true → Tells own rest)
      → Tells (gated (gate_of sized sound r) r own) (gate_rows sized sound r rest)
  unfolding gate_of gated pick
  gate {own} {rest} sized sound f = by sized (sound and whole r) (λ e. f (both e).1)
    where
      by : (a b : Bool) → (b ≡ true → Tells own rest)
          → Tells (gated (pick (not a) (Err BadArea) (pick b (Ok tt) (Err Damaged))) r own) (6 when not a ∷ 7 when not b ∷ rest)
      by false b g = now (stays refl refl refl)
      by true false g = later (now (stays refl refl refl))
      by true true g = later (later (g refl))

  -- a report by its outcome; Done's answer is at the last Finished, else More
  outcomes : (x : Outcome) (end : Bool) (after a b : Record)
      → Tells (reported (effect_of x) after (pick end (answer Finished a) (answer More b))) (report_rows x end)
  unfolding reported
  outcomes O.Waiting end after a b = now (goes refl refl refl)
  outcomes (O.Failed code) end after a b = later (now (goes refl refl refl))
  outcomes O.Done end after a b = later (later (row end (goes refl refl refl) (λ _. last refl refl refl)))

-- a phase that has a successor goes to the next number
next_phase : (r : Record) → has_successor r.phase.number ≡ true → (advanced r).phase.number ≡ r.phase.number + 1
unfolding advanced onward successor pick
next_phase r h = simp h

structure_outcomes : (r : Record) (t c o : ℕ) (x : Outcome) → whole r ≡ true → Clear (report_structure_bars r t c o) → let s = spent (storing c o r) in
    Tells r (reported (effect_of x) s (structure_done s)) (report_rows x (boundary (r.phase.number + 1)))
unfolding structure_done
structure_outcomes r t c o x w e =
    let s = spent (storing c o r) in
    let h = live_structure _ t _ _ _ _ _ _ (parts w).live (not-false _ e.0) in
    subst (λ (p : ℕ). Tells r (reported (effect_of x) s (structure_done s)) (report_rows x (boundary p))) (next_phase s h) (outcomes r x _ _ _ _)

module _ (sized sound : Bool) (r : Record) where
  -- a call with a row of refusals of its own, which else is performed
  performs : (bs : List (Bar Refusal)) (done : Told) → done.class ≡ performed → done.number ≡ 0
      → Tells r (gated (gate_of sized sound r) r (barring bs r done)) (gate_rows sized sound r (bar_rows bs done_rows))
  performs bs done c e = gate r sized sound (λ _. bars r bs (λ _. last e (ap number_of c) (ap refused c)))

  -- a call fits its rows, whose numbers are listed; a report is answered neither 4 nor 5
  abbrev Spoken : AnyCall → Type 0
  Spoken c =
      Fits (telling (returned r c)) (step_of sized sound r c) (rows sized sound r c)
      × Listed (rows sized sound r c) (numbers_of c)
      × ((among 4 (numbers_of c) or among 5 (numbers_of c)) and reports (kind_of_any c) ≡ false)

  pub spoken : (c : AnyCall) → Spoken c
  unfolding returned rows numbers_of among distinct kind_of ◌and◌ ◌or◌ open_step begin_own ask_structure_own ask_update_own ask_rollback_own report_structure_own report_update_own report_rollback_own update_done rollback_done edit_own commit_own unrestored recover_own recover_retained_own refresh_own stamp_step check_step
  spoken (opens given n) = (bars unopened (open_bars sized n) (λ _. last refl refl refl), (refl, refl), refl)
  spoken (calls (begin structural b)) = (performs (begin_bars r b) _ refl refl, (refl, refl), refl)
  spoken (calls (ask structure)) =
      (gate r sized sound (λ _. refuses r NotReady _ (row _ (goes refl refl refl) (λ _. refuses r Worn _ (last refl refl refl)))), (refl, refl), refl)
  spoken (calls (ask update)) =
      (gate r sized sound (λ _. refuses r Recovering _ (row _ (goes refl refl refl) (λ _. refuses r Worn _ (last refl refl refl)))), (refl, refl), refl)
  spoken (calls (ask rollback)) = (
    gate r sized sound (λ _. around _ _ _ (goes refl refl refl) (refuses r Worn _ (row _ (goes refl refl refl) (λ _. last refl refl refl)))),
    (refl, refl),
    refl,
  )
  spoken (calls (report (structured c o) t x)) =
      (gate r sized sound (λ w. bars r (report_structure_bars r t c o) (structure_outcomes r t c o x w)), (refl, refl), refl)
  spoken (calls (report updated t x)) = (gate r sized sound (λ _. bars r (report_update_bars r t) (λ _. outcomes r x _ _ _ _)), (refl, refl), refl)
  spoken (calls (report rolledBack t x)) = (gate r sized sound (λ _. bars r (report_rollback_bars r t) (λ _. outcomes r x _ _ _ _)), (refl, refl), refl)
  spoken (calls (edit c o)) = (performs (edit_bars r c o) _ refl refl, (refl, refl), refl)
  spoken (calls commit) = (performs (commit_bars r) _ refl refl, (refl, refl), refl)
  spoken (calls (recover n)) = (performs (recover_bars r (long_snapshot n [])) _ refl refl, (refl, refl), refl)
  spoken (calls recover_retained) = (performs (recover_bars r []) _ refl refl, (refl, refl), refl)
  spoken (calls (refresh n)) = (performs (refresh_bars r n) _ refl refl, (refl, refl), refl)
  spoken (calls (stamp d)) =
      (over (λ s. told s r) (row _ (stays refl refl refl) (λ _. row _ (stays refl refl refl) (λ _. last refl refl refl))), (refl, refl), refl)
  spoken (calls (check d s)) =
      (over (λ s. told s r) (row _ (stays refl refl refl) (λ _. alike _ (last refl refl refl) (last refl refl refl))), (refl, refl), refl)
