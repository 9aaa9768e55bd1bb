-- Chains of real calls to which the theorems on such chains are applied. In one the caller holds an exchange area that is a byte short
-- and a log with room for one event, so that a recovery is answered 6 and an asking 12; an update fails and is then done. The other is
-- document 01's, "The log": its sixteen words, computed from the definitions. Assumes nothing.
use Prim.Native.Nat.{ℕ, ◌-◌}
use mathlib.Core.Path.{◌≡◌, refl}
use mathlib.Core.Bool.{true, false}
use mathlib.Core.List.{List, [], ◌∷◌, ◌++◌, map}
use lib.ListN.{get_or, replicate}
use native.Mathlib.Omega.{arith}
use Rattle.std.specs.Prelude.{Ok}
use Rattle.areas.specs.Areas.{area_size}
use Rattle.batch.specs.Batch.{table_words}
use Rattle.record.specs.Answers.{said_of}
use Rattle.record.specs.Leaves.{Leaves}
use Rattle.record.specs.Given.{at}
use Rattle.record.specs.declared.Outcome.TheVariants.{Failed, Done}
use Rattle.step_stamps.specs.Stamping.{says_checked}
use Rattle.log_layout.specs.Log.{blank}
use Rattle.calls.specs.Calls.{Call}
use Rattle.calls.specs.Calls.Work.{update}
use Rattle.calls.specs.Lending.{Lending, leaves_of, unopened}
use Rattle.noting.specs.Through.{leaves_through}
use Rattle.demand_steps.specs.Knowing.{Heard}
use Rattle.demand_steps.specs.Knowing.Item.{apply}
use Rattle.demand_chains.specs.Promises.{stamp_passes}
use Rattle.demand_chains.specs.DemandThree.{DemandThree}
use Rattle.demand_logs.specs.Holding.{Held, Doing, holding, heard_held}
use Rattle.demand_logs.specs.Holding.Payload.{updated}
use Rattle.demand_logs.specs.Holding.Given.{begin, ask, report, commit, recover}
use Rattle.demand_logs.specs.Holding.Doing.{transacts, records}
use Rattle.demand_logs.proofs.HeldTheorems.{held_stamps, held-demands, held-demands-logged}
use Rattle.demand_cases.specs.Cases.{taken}
use Rattle.demand_cases.proofs.Computing.{called, performs, held_after, held_seen}

abbrev area : List ℕ
area = replicate area_size 0

abbrev table : List ℕ
table = replicate table_words 0

abbrev payload : List ℕ
payload = 1 ∷ 2 ∷ 3 ∷ []

abbrev opened : Leaves
opened = leaves_of unopened (Lending.open_at (at 7 0 2) area payload)

abbrev pub held : Held
held = holding opened.told.state (get_or opened.lent 0 []) area area (replicate (area_size - 1) 0) table (blank (replicate 8 0))

abbrev pub working : List Doing
working =
    records (begin false (4 ∷ 5 ∷ []) (6 ∷ []) (10 ∷ 20 ∷ [])) ∷ records (ask update) ∷ transacts (recover 2)
    ∷ transacts (ask update) ∷ transacts (report (updated 30) 1 (Failed 9)) ∷ transacts (ask update) ∷ transacts (report (updated 40) 2 Done) ∷ []

abbrev pub ended : List Doing
ended = working ++ transacts commit ∷ []

-- what is answered; the commit exchanges the areas, and the table has the last payload
pub held_computed : (map (λ (h : Heard). h.answer.number) (heard_held held ended) ≡ 0 ∷ 12 ∷ 6 ∷ 20 ∷ 22 ∷ 20 ∷ 24 ∷ 0 ∷ [])
    × ((held_after held ended).accepted ≡ 4 ∷ 5 ∷ replicate (area_size - 2) 0)
    × ((held_after held ended).candidate ≡ 1 ∷ 2 ∷ 3 ∷ replicate (area_size - 3) 0)
    × ((held_after held ended).table ≡ 10 ∷ 40 ∷ replicate (table_words - 2) 0)
unfolding held_after held_seen
held_computed = (refl, refl, refl, refl)

-- ready for commit after its one report, and a revision on after the commit
pub held_met : ((held_seen held working).done ≡ apply 0 ∷ []) × (performs (held_after held working).state Call.commit ≡ true)
    × ((held_after held ended).state.revision ≡ 8)
unfolding held_after held_seen
held_met =
    let f = (held-demands held working (at 7 0 2) area payload (omega arith) refl refl).commit_exactly refl refl in
    (f.order, f.exact, (held-demands held ended (at 7 0 2) area payload (omega arith) refl refl).revision_law)

-- so that a stamp that was taken at the opening fails
pub held_stamp_met : said_of (called (held_after held ended).state (Call.check 3 taken)) ≡ says_checked (Ok false)
unfolding held_after held_seen stamp_passes
held_stamp_met = held_stamps held ended 3 taken 3 (omega arith) refl

-- "Room 3, opened at 0 and 0", a log with something in it; "update-only begin without actions, commit"
abbrev pub opened_log : Leaves
opened_log = leaves_through unopened (replicate 16 7) (Lending.open_at (at 0 0 0) area [])

abbrev pub held_log : Held
held_log = holding opened_log.told.state (get_or opened_log.lent 1 []) area area area table (get_or opened_log.lent 0 [])

abbrev pub calls : List Doing
calls = records (begin false [] [] []) ∷ records commit ∷ []

pub logbook : (held_after held_log calls).log ≡ 2 ∷ 4 ∷ 3 ∷ 0 ∷ 1 ∷ 0 ∷ 0 ∷ 0 ∷ 9 ∷ 0 ∷ 0 ∷ 1 ∷ 0 ∷ 0 ∷ 0 ∷ 0 ∷ []
unfolding held_after
logbook = refl

pub logbook_met : DemandThree (at 0 0 0) (held_after held_log calls).state (held_seen held_log calls)
unfolding held_after held_seen
logbook_met = held-demands-logged held_log calls (at 0 0 0) area [] (omega arith) (replicate 16 7) refl refl
