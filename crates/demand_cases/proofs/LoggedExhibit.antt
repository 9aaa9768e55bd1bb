-- A recorded chain with room to the last word, and the same chain with room for one event less, to which the theorems on chains through
-- the recorder are applied: no hypothesis of theirs is met by nothing. In it an ask answered 4 is written, and a begin answered 1 and a
-- commit answered 4 are not. Assumes nothing.
use Prim.Native.Nat.{ℕ}
use mathlib.Core.Path.{◌≡◌, refl}
use mathlib.Core.Bool.{true, false}
use mathlib.Core.List.{List, [], ◌∷◌, ◌++◌, map}
use lib.ListN.{replicate}
use native.Mathlib.Omega.{arith}
use Rattle.areas.specs.Areas.{area_size}
use Rattle.answers.specs.Answers.{Said, says}
use Rattle.record.specs.Given.{at, beginning}
use Rattle.record.specs.Leaves.{Leaves}
use Rattle.record.specs.declared.Outcome.TheVariants.{Done}
use Rattle.answers.specs.declared.Answer.TheVariants.{Refused, Ticket, Finished}
use Rattle.answers.specs.declared.Refusal.TheVariants.{Pending, NotReady, LogFull}
use Rattle.wholeness.specs.Whole.{whole}
use Rattle.log_layout.specs.Log.{log_width, words_of, sound, blank}
use Rattle.events.specs.Entries.{entry, entries, log_of}
use Rattle.noting.specs.Through.{leaves_through}
use Rattle.calls.specs.Calls.{Call}
use Rattle.calls.specs.Calls.Work.{structure, update}
use Rattle.calls.specs.Calls.Report.{updated}
use Rattle.calls.specs.Calls.Call.{begin, ask, report, edit, commit, stamp}
use Rattle.calls.specs.Lending.{Lending, unopened}
use Rattle.demand_steps.specs.Knowing.{Heard}
use Rattle.demand_logs.specs.Logged.{Logged, logged, events}
use Rattle.demand_logs.proofs.LoggedSteps.{log_full_changes_nothing}
use Rattle.demand_logs.proofs.LoggedChains.{Same, same_chain, logged_chain}
use Rattle.demand_logs.proofs.LoggedOpening.{from-opening}
use Rattle.demand_cases.specs.Cases.{done}
use Rattle.demand_cases.proofs.Computing.{through_log, start}

abbrev pub before : List Call
before = begin false (beginning 2 2 1) ∷ begin false (beginning 2 2 1) ∷ ask structure ∷ commit ∷ edit 3 3 ∷ ask update ∷ report updated 1 Done ∷ stamp 3 ∷ []

abbrev pub chain : List Call
chain = before ++ commit ∷ []

-- an opened log with room for so many events
abbrev pub room_for : ℕ → List ℕ
room_for n = blank (replicate (words_of log_width n) 7)

abbrev answers : List Heard → List Said
answers hs = map (λ (h : Heard). h.answer) hs

-- the five events; the log's words with room for all; and what is heard with room for four: the last commit is answered 12
pub computed : (events start chain ≡ entry 1 0 0 7 ∷ entry 3 4 0 7 ∷ entry 5 20 1 7 ∷ entry 6 24 1 7 ∷ entry 9 0 1 8 ∷ [])
    × ((through_log start (room_for 5) chain).log ≡ 5 ∷ 4 ∷ 5 ∷ 0 ∷ 1 ∷ 0 ∷ 0 ∷ 7 ∷ 3 ∷ 4 ∷ 0 ∷ 7 ∷ 5 ∷ 20 ∷ 1 ∷ 7 ∷ 6 ∷ 24 ∷ 1 ∷ 7 ∷ 9 ∷ 0 ∷ 1 ∷ 8 ∷ [])
    × (answers (through_log start (room_for 4) chain).heard
    ≡ done ∷ says (Refused Pending) ∷ says (Refused NotReady) ∷ says (Refused NotReady) ∷ done ∷ says (Ticket 1 0) ∷ says Finished ∷ says (Refused Pending) ∷ says (Refused LogFull) ∷ [])
unfolding through_log
computed = (refl, refl, refl)

-- room for all five
pub exhibited : Same start (room_for 5) chain
unfolding through_log
exhibited = same_chain chain start (room_for 5) refl refl (omega arith)

-- with room for four the record is whole and the head sound all the same
pub whole_met : (whole (through_log start (room_for 4) chain).state ≡ true) × (sound (through_log start (room_for 4) chain).log ≡ true)
unfolding through_log
whole_met = logged_chain chain start (room_for 4) refl refl refl (omega arith)

-- and the commit that is answered 12 changes nothing of what was before it
abbrev full : Logged
full = through_log start (room_for 4) before

pub full_met : ((through_log start (room_for 4) chain).state ≡ full.state) × ((through_log start (room_for 4) chain).log ≡ full.log)
unfolding through_log
full_met = log_full_changes_nothing full.state full.log commit refl

-- and from an opening through the recorder, whatever stood in the log
abbrev opened : Leaves
opened = leaves_through unopened (replicate 24 7) (Lending.open_at (at 7 0 2) (replicate area_size 0) (1 ∷ 2 ∷ 3 ∷ []))

pub opening_met : Same opened.told.state (log_of opened) chain
    × (entries (logged opened.told.state (log_of opened) chain).log ≡ entry 1 0 0 7 ∷ entry 3 4 0 7 ∷ entry 5 20 1 7 ∷ entry 6 24 1 7 ∷ entry 9 0 1 8 ∷ [])
unfolding through_log
opening_met = from-opening (at 7 0 2) (replicate 24 7) (replicate area_size 0) (1 ∷ 2 ∷ 3 ∷ []) refl chain (omega arith)
