-- Demand 3: "no count of waits, failures or refusals locks a transaction". The due asking leads on: by the Done report of its ticket,
-- or, where nothing is to be updated, at once; and so to the end. Assumes nothing.
use Rattle.std.specs.Prelude.{ℕ, ◌+◌, ◌≤◌, ◌≡◌, Bool, true, List, [], ◌∷◌, length}
use Rattle.choice.specs.Pick.{pick, ◌and◌}
use Rattle.phases.specs.Phases.{updates, adopt}
use Rattle.areas.specs.Areas.{area_size}
use Rattle.answers.specs.Classes.{successful, taken}
use Rattle.answers.specs.Classes.Class.{stepping}
use Rattle.answers.specs.Classes.StepAnswer.{finished}
use Rattle.answers.specs.Answers.{says}
use Rattle.record.specs.Answers.{said_of}
use Rattle.record.specs.Fields.{with_place}
use Rattle.record.specs.declared.Record.{Record}
use Rattle.record.specs.declared.Outcome.TheVariants.{Done}
use Rattle.answers.specs.declared.Answer.TheVariants.{Ticket}
use Rattle.calls.specs.Calls.{Call, step}
use Rattle.calls.specs.Calls.Work.{structure, update, rollback}
use Rattle.calls.specs.Calls.Report.{structured, updated, rolledBack}
use Rattle.calls.specs.Calls.Call.{ask, report, commit, recover_retained}
use Rattle.calls.specs.Kinds.{kind_of, step_kind}
use Rattle.demand_chains.specs.Chains.{after, heard}
use Rattle.demand_steps.specs.Knowing.{Watch}
use Rattle.demand_steps.specs.Watching.{watch}
use Rattle.demand_chains.specs.Plans.{planned, planned_back}

-- the report of a ticket that an asking was answered with: of its kind of work, Done, "payloads" of at most 4,096 bytes
pub data DoneReport (ticket : ℕ) : Call → Call → Type 0 where
  for_structure : {candidate recovery : ℕ} → candidate ≤ area_size → recovery ≤ area_size →
      DoneReport ticket (ask structure) (report (structured candidate recovery) ticket Done)
  for_update : DoneReport ticket (ask update) (report updated ticket Done)
  for_rollback : DoneReport ticket (ask rollback) (report rolledBack ticket Done)

-- the Done reports that count: towards the commit, and after a granted rollback towards the recovery
abbrev pub counted : Watch → ℕ
counted w = pick w.turned (length w.undone) (length w.done)

-- and how many there are to be
abbrev pub wanted : Watch → ℕ
wanted w = pick w.turned (planned_back w.structural w.started) (planned w.structural w.size)

-- an asking and then the report of its ticket: "Done reports that are taken", one more, of as many as before
pub record Counts (r : Record) (w : Watch) (asking report : Call) : Type 0 where
  pub is_taken : taken (step (step r asking).state report).class ≡ true
  pub one_more : counted (watch w (heard r (asking ∷ report ∷ []))) ≡ counted w + 1
  pub as_many : wanted (watch w (heard r (asking ∷ report ∷ []))) ≡ wanted w

-- an asking without a ticket: "phase 5 becomes 6", all else of the record stays, and all that the watcher knows
pub record MovesOn (r : Record) (w : Watch) (asking : Call) : Type 0 where
  pub from : r.phase.number ≡ updates
  pub to : (step r asking).state ≡ with_place adopt r.forward r.back r
  pub uncounted : watch w (heard r (asking ∷ [])) ≡ w

-- "no count of waits, failures or refusals locks a transaction": what the due asking leads to, either way that it is granted
pub record Progress (r : Record) (w : Watch) (asking : Call) : Type 0 where
  pub counts : (t i : ℕ) (report : Call) → said_of (step r asking) ≡ says (Ticket t i) → DoneReport t asking report → Counts r w asking report
  pub moves_on : (step r asking).class ≡ stepping finished → MovesOn r w asking

-- what ends the transaction: commit, and after a granted rollback recovery from the retained payload
abbrev pub ending : Watch → Call
ending w = pick w.turned recover_retained commit

-- asks and reports alone, "3, 5, 7 asks and 4, 6, 8 reports", which neither begin nor end a transaction
unfoldable pub worked : List Call → Bool
worked [] = true
worked (c ∷ cs) = step_kind (kind_of c) and worked cs

-- so that no transaction is locked: some asks and reports lead to its end
pub record Finishes (r : Record) (w : Watch) : Type 0 where
  pub calls : List Call
  pub by_work : worked calls ≡ true
  pub ends : successful (step (after r calls) (ending w)).class ≡ true
