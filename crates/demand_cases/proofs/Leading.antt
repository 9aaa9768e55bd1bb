-- Chains to which the theorems on progress, on a granted rollback, on an early recovery and on stamps are applied: no hypothesis is met
-- by nothing. A stamp that is taken at the opening passes after calls that were refused, and fails while a transaction is staged, after a
-- commit, a recovery and a refresh, and for another domain. Assumes nothing.
use Prim.Native.Nat.{ℕ, ◌+◌}
use mathlib.Core.Path.{◌≡◌, refl}
use mathlib.Core.Bool.{true, false}
use mathlib.Core.List.{List, [], ◌∷◌, ◌++◌, map}
use native.Mathlib.Omega.{arith}
use Rattle.std.specs.Prelude.{Ok}
use Rattle.choice.specs.Pick.{pick}
use Rattle.areas.specs.Areas.{area_size}
use Rattle.answers.specs.Classes.Class.{performed}
use Rattle.answers.specs.Answers.{Said, said}
use Rattle.record.specs.Answers.{said_of}
use Rattle.record.specs.Given.{beginning}
use Rattle.record.specs.declared.Outcome.TheVariants.{Waiting, Done}
use Rattle.step_opens.specs.Opening.{opening}
use Rattle.step_ends.specs.Ending.{after_commit}
use Rattle.step_stamps.specs.Stamping.{says_stamping, says_checked}
use Rattle.calls.specs.Calls.Work.{structure, update, rollback}
use Rattle.calls.specs.Calls.Report.{structured, rolledBack}
use Rattle.calls.specs.Calls.Call.{begin, ask, report, commit, recover, recover_retained, refresh, stamp, check}
use Rattle.demand_chains.specs.Sending.{Sent, plainly}
use Rattle.demand_chains.specs.Plans.{due}
use Rattle.demand_chains.specs.Promises.{stamp_passes}
use Rattle.demand_chains.specs.Progress.{DoneReport, Counts, MovesOn, Finishes}
use Rattle.demand_chains.specs.Turning.{recovered_in, UntilRecovery, Recoveries}
use Rattle.demand_steps.proofs.Reopening.{commit_opens}
use Rattle.demand_chains.proofs.Stamps.{stamp_law}
use Rattle.demand_cases.specs.Cases.{taken}
use Rattle.demand_cases.proofs.Computing.{called, reached, known, start, now, seen, demand}
use Rattle.demand_cases.proofs.Courses.{settles, rough, ahead, undone, again}

-- after a failure, a wait and refusals, the Done report of the next ticket counts one more
pub counts_met : Counts (now rough) (seen rough) (ask structure) (report (structured 2 2) 3 Done)
unfolding now seen due
counts_met = ((demand rough).progress (ask structure) refl).counts 3 1 _ refl (DoneReport.for_structure (omega arith) (omega arith))

-- and the transaction can be finished
pub finishes_met : Finishes (now rough) (seen rough)
unfolding now seen
finishes_met = (demand rough).finishes refl (omega arith)

-- one without actions, in phase 5: the asking for updates is answered Finished, and the phase moves on
abbrev empty : List Sent
empty = plainly (begin true (beginning 2 2 0)) ∷ settles 1 ++ settles 2 ++ settles 3 ++ settles 4

pub moves_met : MovesOn (now empty) (seen empty) (ask update)
unfolding now seen due
moves_met = ((demand empty).progress (ask update) refl).moves_on refl

-- rolled back with one update started, and then a wait, a commit that is refused and a second asking
abbrev turning : List Sent
turning = map plainly (begin false (beginning 2 2 3) ∷ ask update ∷ ask rollback ∷ [])

abbrev further : List Sent
further = map plainly (report rolledBack 2 Waiting ∷ commit ∷ ask rollback ∷ [])

pub until_met : UntilRecovery (seen turning) (known (seen turning) (now turning) further) (reached (now turning) further)
unfolding now seen recovered_in
until_met = (demand turning).until_recovery further refl refl refl

-- update-only and without actions: recovery at once
abbrev bare : List Sent
bare = plainly (begin false (beginning 2 2 0)) ∷ []

pub early_met : Recoveries (now bare) true
unfolding now seen
early_met = (demand bare).recovery_early refl refl

-- and commit at once: the record is that of an opening one revision on
pub opens_met : (called (now bare) commit).state ≡ opening (after_commit (now bare)) 2
unfolding now
opens_met = commit_opens (now bare) refl

-- a stamp of domain 3 at revision 7 and 2 replacements
pub stamp_met : said_of (called start (stamp 3)) ≡ says_stamping (Ok taken)
unfolding called
stamp_met = refl

-- checked for a domain after a chain
abbrev checked : List Sent → ℕ → Said
checked ss domain = said_of (called (now ss) (check domain taken))

law : (ss : List Sent) (domain : ℕ) → checked ss domain ≡ said performed (pick (stamp_passes (seen ss).running domain 3 (seen ss).replacements) 1 0 ∷ [])
unfolding now seen
law ss domain = stamp_law start 3 taken ss domain (omega arith) stamp_met

-- refused, each of the calls that replace settings
abbrev refusals : List Sent
refusals = map plainly (commit ∷ recover 4 ∷ recover_retained ∷ refresh (area_size + 1) ∷ [])

-- yes: with nothing since, and after calls that were refused
pub passes_met : (checked [] 3 ≡ says_checked (Ok true)) × (checked refusals 3 ≡ says_checked (Ok true))
unfolding now seen stamp_passes
passes_met = (law [] 3, law refusals 3)

-- no: while one is staged, after its commit, after a commit with another staged, and for another domain
pub fails_met : (checked ahead 3 ≡ says_checked (Ok false)) × (checked (ahead ++ plainly commit ∷ []) 3 ≡ says_checked (Ok false))
    × (checked again 3 ≡ says_checked (Ok false)) × (checked [] 4 ≡ says_checked (Ok false))
unfolding now seen stamp_passes
fails_met = (law ahead 3, law (ahead ++ plainly commit ∷ []) 3, law again 3, law [] 4)

-- nor, at the same revision, after either recovery and after a refresh; the count is one more after each
pub replaced_met : (checked (undone ++ plainly recover_retained ∷ []) 3 ≡ says_checked (Ok false)) × (checked (bare ++ plainly (recover 4) ∷ []) 3 ≡ says_checked (Ok false))
    × (checked (plainly (refresh 4) ∷ []) 3 ≡ says_checked (Ok false)) × ((now (plainly (refresh 4) ∷ [])).replacements ≡ 3)
unfolding now seen stamp_passes
replaced_met = (
  law (undone ++ plainly recover_retained ∷ []) 3,
  law (bare ++ plainly (recover 4) ∷ []) 3,
  law (plainly (refresh 4) ∷ []) 3,
  (demand (plainly (refresh 4) ∷ [])).replacements_law,
)
