-- Chains from a stored record, staged and in phase 5, to which the theorems from any whole record are applied: with one update of three
-- reported and another started it is carried to its commit, or rolled back to its recovery. Assumes nothing.
use Prim.Native.Nat.{◌+◌}
use mathlib.Core.Path.{◌≡◌, refl, sym}
use mathlib.Core.Bool.{true, false}
use mathlib.Core.List.{List, [], ◌∷◌, ◌++◌, map}
use native.Mathlib.Omega.{arith}
use Rattle.choice.proofs.Tests.{never, eqb_ne}
use Rattle.areas.specs.Areas.{area_size}
use Rattle.record.specs.Given.{standing}
use Rattle.record.specs.declared.Record.{Record}
use Rattle.record.specs.declared.Outcome.TheVariants.{Waiting, Done}
use Rattle.wholeness.specs.Whole.{whole}
use Rattle.calls.specs.Calls.Work.{update, rollback}
use Rattle.calls.specs.Calls.Report.{updated, rolledBack}
use Rattle.calls.specs.Calls.Call.{ask, report, commit, recover, recover_retained}
use Rattle.demand_chains.specs.Sending.{Sent, plainly}
use Rattle.demand_steps.specs.Knowing.{Watch}
use Rattle.demand_steps.specs.Knowing.Item.{settle, apply, undo}
use Rattle.demand_chains.specs.Plans.{due}
use Rattle.demand_chains.specs.Starting.{watch_of}
use Rattle.demand_chains.specs.Promises.{Asking}
use Rattle.demand_chains.specs.Progress.{DoneReport, Counts, Finishes}
use Rattle.demand_chains.specs.Turning.{recovered_in}
use Rattle.demand_chains.specs.DemandThree.{DemandThree}
use Rattle.demand_chains.proofs.From.{demands_from}
use Rattle.demand_cases.proofs.Exhibits.{staged, updating}
use Rattle.demand_cases.proofs.Computing.{called, performs, reached, known}
use Rattle.demand_cases.proofs.Courses.{settles}

unfoldable pub now : List Sent → Record
unfolding reached updating staged
now ss = reached updating ss

unfoldable pub seen : List Sent → Watch
unfolding known updating staged watch_of
seen ss = known (watch_of updating) updating ss

pub updating_whole : whole updating ≡ true
unfolding now
updating_whole = refl

-- demand 3, of every chain from there
demand : (ss : List Sent) → DemandThree (standing updating) (now ss) (seen ss)
unfolding now seen
demand ss = demands_from updating (omega arith) updating_whole ss

-- two of three updates done after a report, six of 5 + 3: commit and recovery are refused, and the next update leads on
abbrev carried : List Sent
carried = plainly (report updated 1 Done) ∷ []

pub staged_met : ((seen carried).done ≡ settle 1 ∷ settle 2 ∷ settle 3 ∷ settle 4 ∷ apply 0 ∷ apply 1 ∷ [])
    × (performs (now carried) commit ≡ false) × ((called (now carried) recover_retained).number ≡ 4) × Asking (now carried)
    × Counts (now carried) (seen carried) (ask update) (report updated 2 Done) × Finishes (now carried) (seen carried)
unfolding now seen due
staged_met =
    let f = (demand carried).commit_exactly refl refl in (
      f.order,
      f.exact,
      ((demand carried).recovery_early refl refl).retained,
      (demand carried).never_locked refl (λ t. eqb_ne _ _ refl) (λ t. never (sym t)),
      ((demand carried).progress (ask update) refl).counts 2 2 _ refl DoneReport.for_update,
      (demand carried).finishes refl (omega arith),
    )

-- all done: 5 + 3 reports, and then the commit
abbrev finished : List Sent
finished = carried ++ map plainly (ask update ∷ report updated 2 Done ∷ []) ++ settles 3

pub finished_met : ((seen finished).done ≡ settle 1 ∷ settle 2 ∷ settle 3 ∷ settle 4 ∷ apply 0 ∷ apply 1 ∷ apply 2 ∷ settle 6 ∷ [])
    × (performs (now finished) commit ≡ true) × ((now (finished ++ plainly commit ∷ [])).revision ≡ 8)
unfolding now seen
finished_met =
    let f = (demand finished).commit_exactly refl refl in
    (f.order, f.exact, (demand (finished ++ plainly commit ∷ [])).revision_law)

-- rolled back with two started, and all undone: 2 + 4 reports; the way back has no commit
abbrev turned : List Sent
turned = plainly (ask rollback) ∷ []

abbrev undoing : List Sent
undoing =
    map plainly (report rolledBack 2 Done ∷ ask rollback ∷ report rolledBack 3 Waiting ∷ ask rollback ∷ report rolledBack 4 Done ∷ [])
    ++ settles 5 ++ settles 6 ++ settles 7 ++ settles 8

pub undoing_met : ((seen (turned ++ undoing)).undone ≡ undo 1 ∷ undo 0 ∷ settle 9 ∷ settle 10 ∷ settle 11 ∷ settle 12 ∷ [])
    × (performs (now (turned ++ undoing)) recover_retained ≡ true) × ((called (now (turned ++ undoing)) (recover (area_size + 1))).number ≡ 16)
    × ((called (now (turned ++ undoing)) commit).number ≡ 4)
unfolding now seen recovered_in
undoing_met =
    let b = (demand (turned ++ undoing)).recovery_exactly refl refl in (
      b.order,
      b.exact,
      ((demand (turned ++ undoing)).recovery_back refl refl).given (area_size + 1),
      ((demand turned).until_recovery undoing refl refl refl).uncommitted,
    )
