-- The calls of document 01 as one type, payloads by their lengths, and one step over it. Assumes nothing.
use Rattle.std.specs.Prelude.{ℕ, Bool, true}
use Rattle.record.specs.Answers.{Told, told}
use Rattle.record.specs.declared.Record.{Record}
use Rattle.record.specs.declared.Opening.{Opening}
use Rattle.record.specs.declared.Beginning.{Beginning}
use Rattle.record.specs.declared.Outcome.{Outcome}
use Rattle.step_opens.specs.Opening.{open_step}
use Rattle.step_begins.specs.Beginning.{begin_step, edit_step}
use Rattle.step_asks.specs.Asks.{ask_structure_step, ask_update_step}
use Rattle.step_rollbacks.specs.Rollbacks.{ask_rollback_step}
use Rattle.step_structure.specs.Structure.{report_structure_step}
use Rattle.step_updates.specs.Updates.{report_update_step}
use Rattle.step_undos.specs.Undos.{report_rollback_step}
use Rattle.step_ends.specs.Ending.{commit_step, refresh_step}
use Rattle.step_recoveries.specs.Recovering.{recover_step, recover_retained_step}
use Rattle.step_stamps.specs.Stamping.{stamp_step, check_step}
use Rattle.step_stamps.specs.declared.SaveStamp.{SaveStamp}

-- the kinds of work that are asked for and reported
pub data Work : Type 0 where
  structure update rollback : Work

-- the work that a report is of, with the lengths of its payloads: "Report structure (both payloads)"; the payload of an action is one
-- word, and decides no answer
pub data Report : Type 0 where
  structured : (candidate recovery : ℕ) → Report
  updated rolledBack : Report

-- the calls on a record; begin with the flag of a structural one
pub data Call : Type 0 where
  begin : (structural : Bool) → Beginning → Call
  ask : Work → Call
  report : Report → (ticket : ℕ) → Outcome → Call
  edit : (candidate recovery : ℕ) → Call
  commit : Call
  recover : (length : ℕ) → Call
  recover_retained : Call
  refresh : (length : ℕ) → Call
  stamp : (domain : ℕ) → Call
  check : (domain : ℕ) → SaveStamp → Call

-- what a call answers and leaves; the first test says whether all that it is lent has the right size, the second whether the head of
-- the log that it goes through is sound
abbrev pub step_with : Bool → Bool → Record → Call → Told
step_with sized sound r (begin structural b) = begin_step sized sound structural r b
step_with sized sound r (ask structure) = ask_structure_step sized sound r
step_with sized sound r (ask update) = ask_update_step sized sound r
step_with sized sound r (ask rollback) = ask_rollback_step sized sound r
step_with sized sound r (report (structured c o) t x) = report_structure_step sized sound r t x c o
step_with sized sound r (report updated t x) = report_update_step sized sound r t x
step_with sized sound r (report rolledBack t x) = report_rollback_step sized sound r t x
step_with sized sound r (edit c o) = edit_step sized sound r c o
step_with sized sound r commit = commit_step sized sound r
step_with sized sound r (recover n) = recover_step sized sound r n
step_with sized sound r recover_retained = recover_retained_step sized sound r
step_with sized sound r (refresh n) = refresh_step sized sound r n
step_with sized sound r (stamp domain) = told (stamp_step r domain) r
step_with sized sound r (check domain s) = told (check_step r domain s) r

-- "the log aside and every area of the right size"
abbrev pub step : Record → Call → Told
step r c = step_with true true r c

-- every call of document 01: an opening, which is given no record and stands only at the start of a chain, and the calls on a record
pub data AnyCall : Type 0 where
  opens : Opening → (accepted : ℕ) → AnyCall
  calls : Call → AnyCall

abbrev pub step_of : Bool → Bool → Record → AnyCall → Told
step_of sized sound r (opens given accepted) = open_step sized given accepted
step_of sized sound r (calls c) = step_with sized sound r c
