-- Demand 3 whole, with the count of request 3: of the record r that a chain from an opening reaches, and of what the watcher then knows,
-- w. Assumes nothing.
use Rattle.std.specs.Prelude.{◌+◌, ◌≤◌, ◌≡◌, true, false, List, ◌≢◌, length}
use Rattle.record.specs.Fields.{top}
use Rattle.record.specs.declared.Record.{Record}
use Rattle.record.specs.declared.Opening.{Opening}
use Rattle.calls.specs.Calls.{Call}
use Rattle.demand_chains.specs.Sending.{Sent, after_sent, heard_sent}
use Rattle.demand_steps.specs.Knowing.{Watch}
use Rattle.demand_steps.specs.Watching.{watch}
use Rattle.demand_chains.specs.Plans.{planned, planned_back, due}
use Rattle.demand_chains.specs.Promises.{revision_after, replacements_after, Forward, Backward, Asking}
use Rattle.demand_chains.specs.Progress.{counted, wanted, Progress, Finishes}
use Rattle.demand_chains.specs.Turning.{recovered_in, UntilRecovery, Recoveries, back, untouched}

pub record DemandThree (given : Opening) (r : Record) (w : Watch) : Type 0 where
  pub revision_law : r.revision ≡ revision_after given.revision w.commits
  pub replacements_law : r.replacements ≡ replacements_after given.replacements w.replacements
  pub commit_exactly : w.running ≡ true → w.turned ≡ false → Forward r w
  pub recovery_exactly : w.running ≡ true → w.turned ≡ true → Backward r w
  pub never_locked : w.running ≡ true → (w.turned ≡ false → length w.done ≢ planned w.structural w.size) →
      (w.turned ≡ true → length w.undone ≢ planned_back w.structural w.started) → Asking r
  pub progress : (c : Call) → due r c ≡ true → Progress r w c
  pub finishes : w.running ≡ true → r.serial + wanted w ≤ top + counted w → Finishes r w
  pub until_recovery : (us : List Sent) → w.running ≡ true → w.turned ≡ true → recovered_in (heard_sent r us) ≡ false →
      UntilRecovery w (watch w (heard_sent r us)) (after_sent r us)
  pub recovery_back : w.running ≡ true → w.turned ≡ true → Recoveries r (back w)
  pub recovery_early : w.running ≡ true → w.turned ≡ false → Recoveries r (untouched w)
