-- The engine follows the record through the three reports. Assumes nothing.
use Prim.Native.Nat.{ℕ}
use mathlib.Core.Path.{◌≡◌, refl, sym, subst}
use mathlib.Core.Bool.{Bool, true, false, not}
use mathlib.Core.List.{List}
use borrow.Author.Tests.{not-false}
use Rattle.choice.specs.Pick.{pick, ◌or◌}
use Rattle.areas.specs.Areas.{long}
use Rattle.answers.specs.Classes.{takes}
use Rattle.answers.specs.declared.Refusal.TheVariants.{Stale}
use Rattle.record.specs.Answers.{Told}
use Rattle.record.specs.Given.{effect_of}
use Rattle.record.specs.Fields.{spent}
use Rattle.record.specs.declared.Record.{Record}
use Rattle.record.specs.declared.Outcome.{Outcome}
use Rattle.record.specs.declared.Outcome.TheVariants.{Waiting, Failed, Done}
use Rattle.tickets.specs.Live as Live
use Rattle.tickets.specs.declared.Live.{Live}
use Rattle.answers.specs.declared.Refusal.{Refusal}
use Rattle.bars.specs.Bars.{Bar}
use Rattle.gates.specs.Gates.{barring}
use Rattle.gates.proofs.Passing.{Fails}
use Rattle.reporting.specs.Reporting as Reporting
use Rattle.step_structure.specs.Structure.{storing, report_structure_bars, report_structure_own}
use Rattle.step_updates.specs.Updates.{report_update_bars, report_update_own}
use Rattle.step_undos.specs.Undos.{report_rollback_bars, report_rollback_own}
use Rattle.calls.specs.Calls.{Report}
use Rattle.calls.specs.Calls.Report.{structured, updated, rolledBack}
use Rattle.calls.specs.Calls.Call.{report}
use Rattle.demand_steps.specs.Knowing.{Watch}
use Rattle.demand_steps.specs.Watching.{hears_report, sees}
use Rattle.demand_steps.proofs.Tickets.{on_structure}
use Rattle.demand_steps.proofs.Own.{own}
use Rattle.plain.specs.declared.Taken.{Taken}
use Rattle.plain.specs.Taking as Taking
use Rattle.plain.specs.Taking.{ticketed, counted, spends, is_open, reported, takes_report, takes_settled}
use Rattle.plain_laws.proofs.Barring.{one_of, one_test}
use Rattle.plain_laws.proofs.Knowing.{Holds, Agrees}
use Rattle.plain_laws.proofs.Following.{Follows, stays}
use Rattle.plain_laws.proofs.Counting.{open_same, counts}
use Rattle.plain_laws.proofs.Doing.{settled_done, updated_done, undone_done}

-- one test in the place of the definition's
as_one : (l : Bool) (a b : Taken) → pick l b a ≡ pick (not l) a b
unfolding pick
as_one true a b = refl
as_one false a b = refl

as_three : (l c o : Bool) (a b : Taken) → pick (c or o) a (pick l b a) ≡ pick (not l or c or o) a b
unfolding pick ◌or◌
as_three true true o a b = refl
as_three true false o a b = refl
as_three false true o a b = refl
as_three false false true a b = refl
as_three false false false a b = refl

module _ {t : Taken} {w : Watch} {r : Record} (x : Agrees t w r) where
  -- what a report spends and stores
  spent_holds : (c o : ℕ) → Holds (spends t) (spent (storing c o r))
  unfolding ticketed
  spent_holds c o = record { counts = x.holds.counts; serial = x.holds.serial; live = refl; closed = x.holds.closed }

  -- by its outcome: Waiting and Failed, or what Done does
  outcomes : (of : Report) (ticket c o : ℕ) {done : Told} → Follows w (report of ticket Done) (counted (spends t)) done → (y : Outcome) →
      Follows w (report of ticket y) (reported y (spends t)) (Reporting.reported (effect_of y) (spent (storing c o r)) done)
  unfolding reported Reporting.reported ticketed sees hears_report
  outcomes of ticket c o f Waiting = record { same = x.same; holds = spent_holds c o }
  outcomes of ticket c o f (Failed code) = record { same = x.same; holds = spent_holds c o }
  outcomes of ticket c o f Done = f

  module _ (ticket : ℕ) (y : Outcome) where
    abbrev next : Report → Taken → Told → Type 0
    next of = Follows w (report of ticket y)

    -- refused where one of the bars holds, else by its outcome
    by-bars : (of : Report) (bs : List (Bar Refusal)) (barred : Bool) {g : Taken} {done : Told} → g ≡ pick barred t (reported y (spends t)) → barred ≡ one_of false bs →
        (Fails bs → next of (reported y (spends t)) done) → next of g (barring bs r done)
    unfolding pick
    by-bars of bs barred {done = done} e h f =
        subst (λ (q : Taken). next of q (barring bs r done)) (sym e) (one_test (λ b z. next of (pick b t (reported y (spends t))) z) r (stays x.same x.holds) bs barred h f)

    pub settled-follows : (c o : ℕ) → next (structured c o) (Taking.takes t (report (structured c o) ticket y)) (own r (report (structured c o) ticket y))
    unfolding Taking.takes takes_settled takes_report own report_structure_own one_of ◌or◌
    settled-follows c o =
        by-bars (structured c o) (report_structure_bars r ticket c o) (not (is_open Live.structure ticket t) or long c or long o)
        (as_three (is_open Live.structure ticket t) (long c) (long o) t (reported y (spends t))) (rw (open_same x Live.structure ticket refl))
        (λ f. outcomes (structured c o) ticket c o (settled_done x c o ticket (on_structure x.good.is_whole (not-false _ (f Stale))).apart) y)

    pub updated-follows : next updated (Taking.takes t (report updated ticket y)) (own r (report updated ticket y))
    unfolding Taking.takes takes_report own report_update_own one_of ◌or◌
    updated-follows =
        by-bars updated (report_update_bars r ticket) (not (is_open Live.update ticket t))
        (as_one (is_open Live.update ticket t) t (reported y (spends t))) (rw (open_same x Live.update ticket refl))
        (λ f. outcomes updated ticket r.candidate r.recovery (updated_done x ticket (not-false _ (f Stale))) y)

    pub undone-follows : next rolledBack (Taking.takes t (report rolledBack ticket y)) (own r (report rolledBack ticket y))
    unfolding Taking.takes takes_report own report_rollback_own one_of ◌or◌
    undone-follows =
        by-bars rolledBack (report_rollback_bars r ticket) (not (is_open Live.rollback ticket t))
        (as_one (is_open Live.rollback ticket t) t (reported y (spends t))) (rw (open_same x Live.rollback ticket refl))
        (λ f. outcomes rolledBack ticket r.candidate r.recovery (undone_done x ticket (not-false _ (f Stale))) y)
