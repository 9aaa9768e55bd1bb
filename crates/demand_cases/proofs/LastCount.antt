-- At the last count of replacements: an idle record is whole and can be stamped, and neither a begin nor a refresh is granted; a staged one
-- is Damaged. One below, each of the four ways to replace settings leads there. And a stamp that is taken in the middle of a chain.
-- Assumes nothing.
use Prim.Native.Nat.{ℕ, ◌-◌}
use mathlib.Core.Path.{◌≡◌, refl}
use mathlib.Core.Bool.{true, false}
use mathlib.Core.List.{List, [], ◌∷◌, ◌++◌}
use native.Mathlib.Omega.{arith}
use Rattle.std.specs.Prelude.{Ok}
use Rattle.choice.specs.Pick.{pick}
use Rattle.phases.specs.Phases.{none}
use Rattle.answers.specs.Classes.Class.{performed}
use Rattle.answers.specs.Answers.{Said, said}
use Rattle.record.specs.Answers.{said_of}
use Rattle.record.specs.Fields.{top}
use Rattle.record.specs.Given.{at, beginning}
use Rattle.record.specs.declared.Record.{Record}
use Rattle.wholeness.specs.Whole.{whole}
use Rattle.step_opens.specs.Opening.{opening}
use Rattle.step_begins.specs.Beginning.{begun}
use Rattle.step_stamps.specs.Stamping.{says_checked}
use Rattle.step_stamps.specs.declared.SaveStamp.{SaveStamp}
use Rattle.calls.specs.Calls.{Call}
use Rattle.calls.specs.Calls.Call.{begin, commit, recover, recover_retained, refresh, stamp, check}
use Rattle.demand_steps.specs.Knowing.{unwatched}
use Rattle.demand_chains.specs.Sending.{Sent, plainly}
use Rattle.demand_chains.specs.Promises.{stamp_passes}
use Rattle.demand_chains.proofs.Theorems.{stamps_anywhere}
use Rattle.demand_cases.proofs.Computing.{called, reached, known, opens, now}
use Rattle.demand_cases.proofs.Courses.{ahead}

-- idle, and staged, with nothing to update
abbrev idle_at : ℕ → Record
idle_at count = opening (at 7 0 count) 3

abbrev staged_at : ℕ → Record
staged_at count = begun none (beginning 2 2 0) (idle_at count)

pub idle_met : (whole (idle_at top) ≡ true) × ((called (idle_at top) (stamp 3)).number ≡ 0)
    × ((called (idle_at top) (begin false (beginning 2 2 0))).number ≡ 3) × ((called (idle_at top) (refresh 4)).number ≡ 3)
unfolding reached
idle_met = (refl, refl, refl, refl)

pub staged_met : ((called (staged_at top) commit).number ≡ 7) × ((called (staged_at top) (recover 4)).number ≡ 7) × ((called (staged_at top) (refresh 4)).number ≡ 7)
unfolding reached
staged_met = (refl, refl, refl)

-- what a call leaves of the count, one below
abbrev left : Record → Call → ℕ
left r c = (called r c).state.replacements

pub below_met : (left (staged_at (top - 1)) commit ≡ top) × (left (staged_at (top - 1)) (recover 4) ≡ top)
    × (left (staged_at (top - 1)) recover_retained ≡ top) × (left (idle_at (top - 1)) (refresh 4) ≡ top)
unfolding reached
below_met = (refl, refl, refl, refl)

-- stamped after a commit, at revision 8 and 3 replacements: it passes as long as nothing replaces the settings
abbrev later : SaveStamp
later = record { domain = 3; revision = 8; replacements = 3 }

abbrev since : List Sent → Said
since us = said_of (called (reached (now (ahead ++ plainly commit ∷ [])) us) (check 3 later))

law : (us : List Sent) → let w = known unwatched (now (ahead ++ plainly commit ∷ [])) us in
    since us ≡ said performed (pick (stamp_passes w.running 3 3 w.replacements) 1 0 ∷ [])
unfolding now known
law us = stamps_anywhere true (at 7 0 2) 3 (omega arith) opens (ahead ++ plainly commit ∷ []) 3 later us 3 refl

pub anywhere_met : (since [] ≡ says_checked (Ok true)) × (since (plainly (refresh 4) ∷ []) ≡ says_checked (Ok false))
unfolding now known unwatched stamp_passes
anywhere_met = (law [], law (plainly (refresh 4) ∷ []))
