-- The calls with all that they are given and lent, and what each answers and leaves of it: the definition that the contracts of the
-- transaction cite. Here a accepted, c candidate, o recovery, x exchange, t the table. Assumes nothing.
use Rattle.std.specs.Prelude.{ℕ, ◌-◌, ◌/◌, Bool, true, false, List, [], ◌∷◌, length}
use Rattle.choice.specs.Pick.{◌and◌}
use Rattle.areas.specs.Areas.{sized, copied}
use Rattle.batch.specs.Batch.{table_sized, paired, pairs_in, stored}
use Rattle.record.specs.Leaves.{Leaves, moving}
use Rattle.record.specs.Given.{beginning}
use Rattle.record.specs.declared.Opening.{Opening}
use Rattle.record.specs.declared.Record.{Record}
use Rattle.record.specs.declared.Outcome.{Outcome}
use Rattle.step_stamps.specs.declared.SaveStamp.{SaveStamp}
pub use Rattle.step_opens.specs.Opening.{unopened}
use Rattle.calls.specs.Calls.{Work, Report, Call, AnyCall, step_of}
use Rattle.calls.specs.Calls.AnyCall.{opens, calls}

-- the work that a report is of, with the areas or the table that it is lent and the payloads that it stores there
pub data Stored : Type 0 where
  structured : (candidate recovery new old : List ℕ) → Stored
  updated rolledBack : (table : List ℕ) (payload : ℕ) → Stored

-- a call with all that it is lent; those of Lending true are the recorder's too: "Opening, stamps and edits are not written", and of
-- these only the opening is lent the log
pub data Lending : Bool → Type 0 where
  open_at : {logged : Bool} → Opening → (accepted payload : List ℕ) → Lending logged
  begin : {logged : Bool} (structural : Bool) (candidate recovery table new old pairs : List ℕ) → Lending logged
  ask : {logged : Bool} → Work → Lending logged
  report : {logged : Bool} → Stored → (ticket : ℕ) → Outcome → Lending logged
  edit : (candidate recovery new old : List ℕ) → Lending false
  commit : {logged : Bool} (accepted candidate : List ℕ) → Lending logged
  recover : {logged : Bool} (accepted exchange : List ℕ) (length : ℕ) → Lending logged
  recover_retained : {logged : Bool} (accepted recovery exchange : List ℕ) → Lending logged
  refresh : {logged : Bool} (accepted exchange : List ℕ) (length : ℕ) → Lending logged
  stamp : (domain : ℕ) → Lending false
  check : (domain : ℕ) → SaveStamp → Lending false

-- the call, payloads by their lengths
abbrev pub report_of : Stored → Report
report_of (structured c o new old) = Report.structured (length new) (length old)
report_of (updated t payload) = Report.updated
report_of (rolledBack t payload) = Report.rolledBack

abbrev pub call_of : {logged : Bool} → Lending logged → AnyCall
call_of (open_at given a p) = opens given (length p)
call_of (begin structural c o t new old pairs) = calls (Call.begin structural (beginning (length new) (length old) (length pairs / 2)))
call_of (ask w) = calls (Call.ask w)
call_of (report s ticket outcome) = calls (Call.report (report_of s) ticket outcome)
call_of (edit c o new old) = calls (Call.edit (length new) (length old))
call_of (commit a c) = calls Call.commit
call_of (recover a x n) = calls (Call.recover n)
call_of (recover_retained a o x) = calls Call.recover_retained
call_of (refresh a x n) = calls (Call.refresh n)
call_of (stamp domain) = calls (Call.stamp domain)
call_of (check domain s) = calls (Call.check domain s)

-- "an area, table, pair list .. of a wrong size" is none of it
abbrev pub stored_fits : Stored → Bool
stored_fits (structured c o new old) = sized c and sized o
stored_fits (updated t payload) = table_sized t
stored_fits (rolledBack t payload) = table_sized t

abbrev pub fits : {logged : Bool} → Lending logged → Bool
fits (open_at given a p) = sized a
fits (begin structural c o t new old pairs) = sized c and sized o and table_sized t and paired pairs
fits (ask w) = true
fits (report s ticket outcome) = stored_fits s
fits (edit c o new old) = sized c and sized o
fits (commit a c) = sized a and sized c
fits (recover a x n) = sized a and sized x
fits (recover_retained a o x) = sized a and sized o and sized x
fits (refresh a x n) = sized a and sized x
fits (stamp domain) = true
fits (check domain s) = true

-- the areas and the table that are lent, in the order of the contract; payloads and pairs are only read, by their types, and so is the
-- recovery area of a recovery from it
abbrev pub stored_lent : Stored → List (List ℕ)
stored_lent (structured c o new old) = c ∷ o ∷ []
stored_lent (updated t payload) = t ∷ []
stored_lent (rolledBack t payload) = t ∷ []

abbrev pub lent : {logged : Bool} → Lending logged → List (List ℕ)
lent (open_at given a p) = a ∷ []
lent (begin structural c o t new old pairs) = c ∷ o ∷ t ∷ []
lent (ask w) = []
lent (report s ticket outcome) = stored_lent s
lent (edit c o new old) = c ∷ o ∷ []
lent (commit a c) = a ∷ c ∷ []
lent (recover a x n) = a ∷ x ∷ []
lent (recover_retained a o x) = a ∷ o ∷ x ∷ []
lent (refresh a x n) = a ∷ x ∷ []
lent (stamp domain) = []
lent (check domain s) = []

-- what a call that is not refused leaves of them: "Unless refused they .. store the payloads", of a structure report both, and the
-- "payload of action number applied" or "of the last action"
abbrev pub stored_moved : Record → Stored → List (List ℕ)
stored_moved r (structured c o new old) = copied new c ∷ copied old o ∷ []
stored_moved r (updated t payload) = stored r.applied payload t ∷ []
stored_moved r (rolledBack t payload) = stored (r.entries - 1) payload t ∷ []

abbrev pub moved : {logged : Bool} → Record → Lending logged → List (List ℕ)
-- "accepted payload copied"
moved r (open_at given a p) = copied p a ∷ []
-- "Copies both payloads and the pairs"
moved r (begin structural c o t new old pairs) = copied new c ∷ copied old o ∷ pairs_in pairs t ∷ []
moved r (ask w) = []
moved r (report s ticket outcome) = stored_moved r s
-- "Edit replaces both payloads"
moved r (edit c o new old) = copied new c ∷ copied old o ∷ []
-- "Accepted and candidate areas are exchanged whole", "Accepted and exchange areas are exchanged whole."
moved r (commit a c) = c ∷ a ∷ []
moved r (recover a x n) = x ∷ a ∷ []
-- "exchange gets the accepted area, accepted gets the recovery area, which stays"
moved r (recover_retained a o x) = o ∷ o ∷ a ∷ []
-- "exchanges areas as recover does"
moved r (refresh a x n) = x ∷ a ∷ []
moved r (stamp domain) = []
moved r (check domain s) = []

-- what a call of the transaction answers and leaves; an opening is given no record, and `unopened`, which its refusal returns, stands
-- in its place
abbrev pub leaves_of : Record → Lending false → Leaves
leaves_of r c = moving (step_of (fits c) true r (call_of c)) (lent c) (moved r c)
