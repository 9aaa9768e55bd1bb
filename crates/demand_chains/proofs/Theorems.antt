-- Demand 3: what holds of every chain of calls, from an opening that is not refused. Assumes nothing.
use Prim.Native.Nat.{ℕ, ◌+◌, ◌≤◌}
use mathlib.Core.Path.{◌≡◌, refl, sym, ap}
use mathlib.Core.Bool.{Bool, true, false}
use mathlib.Core.List.{List, [], ◌∷◌}
use mathlib.Core.Logic.{◌≢◌}
use native.Mathlib.Omega.{arith}
use lib.ListN.{length}
use Rattle.std.specs.Prelude.{Ok}
use Rattle.choice.specs.Pick.{pick}
use Rattle.choice.proofs.Tests.{never}
use Rattle.areas.specs.Areas.{area_size}
use Rattle.areas.proofs.Laws.{within}
use Rattle.answers.specs.Classes.{successful}
use Rattle.answers.specs.Classes.Class.{performed}
use Rattle.answers.specs.Answers.{said}
use Rattle.record.specs.Answers.{Told, said_of}
use Rattle.record.specs.Fields.{top}
use Rattle.record.specs.Given.{standing}
use Rattle.record.specs.declared.Record.{Record}
use Rattle.record.specs.declared.Opening.{Opening}
use Rattle.answers.specs.declared.Refusal.TheVariants.{LongSnapshot}
use Rattle.wholeness.specs.Whole.{whole}
use Rattle.step_opens.specs.Opening.{unopened, open_bars, opening, open_step}
use Rattle.step_stamps.specs.Stamping.{says_stamping}
use Rattle.step_stamps.specs.declared.SaveStamp.{SaveStamp}
use Rattle.calls.specs.Calls.{Call, step}
use Rattle.calls.specs.Calls.Call.{stamp, check}
use Rattle.demand_chains.specs.Sending.{Sent, after_sent, heard_sent}
use Rattle.demand_steps.specs.Typed.{Typed}
use Rattle.demand_steps.specs.Knowing.{Watch, unwatched}
use Rattle.demand_steps.specs.Watching.{watch}
use Rattle.demand_chains.specs.Plans.{planned, planned_back, due}
use Rattle.demand_chains.specs.Promises.{stamp_passes, revision_after, replacements_after, Forward, Backward, Asking}
use Rattle.demand_chains.specs.Progress.{counted, wanted, Progress, Finishes}
use Rattle.demand_chains.specs.Turning.{recovered_in, UntilRecovery, Recoveries, back, untouched}
use Rattle.demand_chains.specs.DemandThree.{DemandThree}
use Rattle.demand_steps.proofs.Own.{row}
use Rattle.demand_steps.proofs.Advancing.{idles}
use Rattle.demand_steps.proofs.Calming.{range}
use Rattle.demand_steps.proofs.Wholeness.{whole_test}
use Rattle.demand_chains.proofs.Course.Kind.{update_only}
use Rattle.demand_chains.proofs.Course.Course.{ahead}
use Rattle.demand_chains.proofs.Chain.{Good, good_chain}
use Rattle.demand_chains.proofs.Revision.{chain_gains, chain_counts}
use Rattle.demand_chains.proofs.Stamps.{stamp_law}
use Rattle.demand_chains.proofs.Demands.{demand_three}

pub good_opening : (given : Opening) (l : ℕ) → Typed given → l ≤ area_size → Good unwatched (opening given l)
unfolding opening unwatched
good_opening given l m h = record {
  is_whole = idles given l m h;
  tied = record { running = refl; turning = refl; kind = update_only refl refl; last = tt; course = ahead refl refl refl refl refl };
}

-- an opening that is not refused gives the record of that opening
module _ (sized : Bool) (given : Opening) (l : ℕ) (m : Typed given) where
  abbrev Opened : Told → Type 0
  Opened x = successful x.class ≡ true → Good unwatched x.state × (standing x.state ≡ given)

  opened : Opened (open_step sized given l)
  unfolding open_step opening
  opened = row Opened unopened (λ why e. never (sym e)) (open_bars sized l) (λ f e. (good_opening given l m (within l (f LongSnapshot)), refl))

-- "In such a chain from an opening that is not refused, the log aside and every area of the right size"; revision and count are u64s
module _ (sized : Bool) (given : Opening) (l : ℕ) (m : Typed given) (o : successful (open_step sized given l).class ≡ true) (ss : List Sent) where
  abbrev now : Record
  now = after_sent (open_step sized given l).state ss

  abbrev seen : Watch
  seen = watch unwatched (heard_sent (open_step sized given l).state ss)

  pub good : Good seen now
  good = good_chain unwatched _ ss (opened sized given l m o).0

  pub demands : DemandThree given now seen
  unfolding unwatched
  demands =
      let r : Record = (open_step sized given l).state in
      let e : standing r ≡ given = (opened sized given l m o).1 in
      demand_three _ seen now good
      (let g = chain_gains unwatched r ss in let v = ap (λ (x : Opening). x.revision) e in omega arith)
      (let g = chain_counts unwatched r ss in let v = ap (λ (x : Opening). x.replacements) e in omega arith)

  -- "the revision is the opening one plus the successful commits"
  pub revision_law : now.revision ≡ revision_after given.revision seen.commits
  revision_law = demands.revision_law

  -- request 3: and the count of replacements is the opening one plus the successful commits, recoveries and refreshes
  pub replacements_law : now.replacements ≡ replacements_after given.replacements seen.replacements
  replacements_law = demands.replacements_law

  -- demand 2, by request 3: of a stamp taken anywhere in the chain
  pub stamps_anywhere : (d : ℕ) (s : SaveStamp) (us : List Sent) (e : ℕ) → said_of (step now (stamp d)) ≡ says_stamping (Ok s) →
      let since = watch unwatched (heard_sent now us) in
      said_of (step (after_sent now us) (check e s)) ≡ said performed (pick (stamp_passes since.running e d since.replacements) 1 0 ∷ [])
  stamps_anywhere d s us e h = stamp_law now d s us e (range good.is_whole.calm) h

  -- "For a staged transaction of n updates with no rollback granted, commit succeeds exactly after 5 + n Done reports .."
  pub commit_exactly : seen.running ≡ true → seen.turned ≡ false → Forward now seen
  commit_exactly = demands.commit_exactly

  -- "After its first granted rollback, with k updates started, recovery from the retained payload succeeds exactly after k + 4 .."
  pub recovery_exactly : seen.running ≡ true → seen.turned ≡ true → Backward now seen
  recovery_exactly = demands.recovery_exactly

  -- "Until then the due asking of document 01 is granted, unless the serial is at its maximum"
  pub never_locked : seen.running ≡ true →
      (seen.turned ≡ false → length seen.done ≢ planned seen.structural seen.size) →
      (seen.turned ≡ true → length seen.undone ≢ planned_back seen.structural seen.started) → Asking now
  never_locked = demands.never_locked

  -- "no count of waits, failures or refusals locks a transaction": the due asking leads on
  pub progress : (c : Call) → due now c ≡ true → Progress now seen c
  progress = demands.progress

  -- so that some asks and reports lead to the end, where the serial has room for the tickets that are left
  pub finishes : seen.running ≡ true → now.serial + wanted seen ≤ top + counted seen → Finishes now seen
  finishes = demands.finishes

  -- "After its first granted rollback, with k updates started": whatever else is called, until a recovery is performed
  pub until_recovery : (us : List Sent) → seen.running ≡ true → seen.turned ≡ true → recovered_in (heard_sent now us) ≡ false →
      UntilRecovery seen (watch seen (heard_sent now us)) (after_sent now us)
  until_recovery = demands.until_recovery

  -- both recoveries, after a granted rollback and with none granted
  pub recovery_back : seen.running ≡ true → seen.turned ≡ true → Recoveries now (back seen)
  recovery_back = demands.recovery_back

  pub recovery_early : seen.running ≡ true → seen.turned ≡ false → Recoveries now (untouched seen)
  recovery_early = demands.recovery_early

  -- the watcher knows whether something is staged, and the record is whole throughout
  pub staged_known : (seen.running ≡ now.staged) × (whole now ≡ true)
  staged_known = (good.tied.running, whole_test good.is_whole)
