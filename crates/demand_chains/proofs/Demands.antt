-- Demand 3 whole, of a whole record to which what the watcher knows is tied. Assumes nothing.
use mathlib.Core.Path.{◌≡◌}
use Rattle.record.specs.declared.Record.{Record}
use Rattle.record.specs.declared.Opening.{Opening}
use Rattle.demand_steps.specs.Knowing.{Watch}
use Rattle.demand_chains.specs.Promises.{revision_after, replacements_after}
use Rattle.demand_chains.specs.DemandThree.{DemandThree}
use Rattle.demand_chains.proofs.Chain.{Good}
use Rattle.demand_chains.proofs.Exactly.{forward_law, backward_law}
use Rattle.demand_chains.proofs.Asking.{asking_law}
use Rattle.demand_chains.proofs.Progress.{progress_law}
use Rattle.demand_chains.proofs.Finishing.{finish_law}
use Rattle.demand_chains.proofs.Turning.{turned_law}
use Rattle.demand_chains.proofs.Recovering.{back_law, early_law}

pub demand_three : (given : Opening) (w : Watch) (r : Record) → Good w r → r.revision ≡ revision_after given.revision w.commits →
    r.replacements ≡ replacements_after given.replacements w.replacements → DemandThree given r w
demand_three given w r g e n = record {
  revision_law = e;
  replacements_law = n;
  commit_exactly = forward_law w r g;
  recovery_exactly = backward_law w r g;
  never_locked = asking_law w r g;
  progress = progress_law w r g;
  finishes = finish_law w r g;
  until_recovery = λ us. turned_law w r us g;
  recovery_back = back_law w r g;
  recovery_early = early_law w r g;
}
