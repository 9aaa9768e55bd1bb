-- What a call on a whole record does, by cases: the one place where the tests of the steps are split. Assumes nothing.
use Prim.Native.Nat.{ℕ, ◌+◌, ◌-◌, ◌≤◌, ◌<◌}
use mathlib.Core.Path.{◌≡◌}
use mathlib.Core.Bool.{Bool, true, false}
use mathlib.Core.List.{[]}
use mathlib.Core.Logic.{◌≢◌}
use lib.Dec.{eqb}
use Rattle.choice.specs.Pick.{pick}
use Rattle.phases.specs.Phases.{updates, adopt, undo, recover_remove}
use Rattle.areas.specs.Areas.{area_size}
use Rattle.batch.specs.Batch.{limit}
use Rattle.answers.specs.Classes.{StepAnswer, takes}
use Rattle.answers.specs.Classes.Class.{stepping}
use Rattle.answers.specs.Answers.{Said, said}
use Rattle.record.specs.Answers.{Told, told, answer}
use Rattle.tickets.specs.Live.{is_live}
use Rattle.tickets.specs.Live as Tickets
use Rattle.record.specs.Fields.{top, with_lengths, with_place, spent, adopting}
use Rattle.record.specs.declared.Record.{Record}
use Rattle.record.specs.declared.Beginning.{Beginning}
use Rattle.tickets.specs.declared.Live.TheVariants.{Structure, Update, Rollback}
use Rattle.record.specs.declared.Outcome.TheVariants as O
use Rattle.answers.specs.declared.Answer.TheVariants.{Done, Finished}
use Rattle.answers.specs.declared.Was.TheVariants.{Nothing, One, Three}
use Rattle.step_begins.specs.Beginning.{first_phase, begun}
use Rattle.record.specs.Given.{opening}
use Rattle.issuing.specs.Issuing.{issue}
use Rattle.step_asks.specs.Asks.{started}
use Rattle.step_rollbacks.specs.Rollbacks.{turned}
use Rattle.step_structure.specs.Structure.{advanced, storing}
use Rattle.step_updates.specs.Updates.{raised}
use Rattle.step_undos.specs.Undos.{lowered}
use Rattle.step_ends.specs.Ending as Ending
use Rattle.step_ends.specs.Ending.{after_commit}
use Rattle.step_recoveries.specs.Recovering.{recovered_to}
use Rattle.calls.specs.Calls.{Call}
use Rattle.calls.specs.Calls.Work.{structure, update, rollback}
use Rattle.calls.specs.Calls.Report.{structured, updated, rolledBack}
use Rattle.calls.specs.Calls.Call.{begin, ask, report, commit, recover, recover_retained, refresh}
use Rattle.demand_steps.proofs.Unseen.{Unseen}

-- phases 0, 5 and 8, and 7 and 13, are none of them
pub record Apart (p : ℕ) : Type 0 where
  pub not0 : p ≢ 0
  pub not5 : p ≢ 5
  pub not7 : p ≢ 7
  pub not8 : p ≢ 8
  pub not13 : p ≢ 13

pub data Updates (p : ℕ) : Type 0 where
  flat : p ≡ 0 → Updates p
  batch : p ≡ 5 → Updates p

-- the i-th of n is done: after the last phase x becomes y
pub data Goes (i n x y p : ℕ) : ℕ → Type 0 where
  last : i ≡ n → Goes i n x y p (pick (eqb p x) y p)
  more : i ≢ n → Goes i n x y p p

pub record Lengths (a c o : ℕ) : Type 0 where
  pub accepted : a ≤ area_size
  pub candidate : c ≤ area_size
  pub recovery : o ≤ area_size

-- lengths that a call leaves
abbrev pub Left : Record → ℕ → ℕ → ℕ → Type 0
Left r a c o = Lengths r.accepted r.candidate r.recovery → Lengths a c o

pub data Leaf (r : Record) : Call → Told → Type 0 where
  kept : {c : Call} {s : Said} {a n o : ℕ} → Unseen c s → Left r a n o → Leaf r c (told s (with_lengths a n o r))
  began : {structural : Bool} {b : Beginning} → r.staged ≡ false → r.revision ≢ top → r.replacements ≢ top → Left r r.accepted b.candidate b.recovery → b.actions ≤ limit →
      Leaf r (begin structural b) (answer (Done Nothing) (begun (first_phase structural) b r))
  structure_asked : Apart r.phase.number → Leaf r (ask structure) (issue Structure r.phase.number r)
  update_ended : Updates r.phase.number → r.restoring ≡ false → r.applied ≡ r.entries → Leaf r (ask update) (answer Finished (adopting r))
  update_asked : Updates r.phase.number → r.restoring ≡ false → r.applied ≢ r.entries → Leaf r (ask update) (issue Update r.applied (started r))
  rollback_ended : recover_remove ≤ r.phase.number → Leaf r (ask rollback) (answer Finished r)
  turned_empty : r.phase.number < recover_remove → r.attempted ≡ 0 → Leaf r (ask rollback) (answer Finished (spent (turned recover_remove r)))
  turned_asked : r.phase.number < recover_remove → r.attempted ≢ 0 → Leaf r (ask rollback) (issue Rollback (r.attempted - 1) (turned undo r))
  waited : {c : Call} {s : Said} {n o : ℕ} → Unseen c s → Left r r.accepted n o → Leaf r c (told s (spent (storing n o r)))
  went : {t n o : ℕ} {s : StepAnswer} → takes s ≡ true → is_live Tickets.structure t r.live ≡ true → Left r r.accepted n o →
      Leaf r (report (structured n o) t O.Done) (told (said (stepping s) []) (advanced (spent (storing n o r))))
  update_taken : {t p : ℕ} {s : StepAnswer} → takes s ≡ true → is_live Tickets.update t r.live ≡ true → Goes (r.applied + 1) r.entries updates adopt r.phase.number p →
      Leaf r (report updated t O.Done) (told (said (stepping s) []) (with_place p r.forward r.back (raised (spent r))))
  undo_taken : {t p : ℕ} {s : StepAnswer} → takes s ≡ true → is_live Tickets.rollback t r.live ≡ true → Goes (r.entries - 1) 0 undo recover_remove r.phase.number p →
      Leaf r (report rolledBack t O.Done) (told (said (stepping s) []) (with_place p r.forward r.back (lowered (spent r))))
  committed : r.staged ≡ true → Leaf r commit (answer (Done (Three r.accepted r.recovery r.entries)) (opening (after_commit r) r.candidate))
  recovered : {n : ℕ} → r.staged ≡ true → n ≤ area_size → Leaf r (recover n) (recovered_to n r)
  restored : r.staged ≡ true → Leaf r recover_retained (recovered_to r.recovery r)
  refreshed : {n : ℕ} → r.staged ≡ false → r.replacements ≢ top → n ≤ area_size → Leaf r (refresh n) (answer (Done (One r.accepted)) (Ending.refreshed n r))
