-- Demands 2 and 3, "In one chain of calls, each given what the last left": a caller who holds the record, the areas, the table and the
-- log, hands them to each call of the transaction or of the recorder, and holds what its contract says that it leaves. Assumes nothing.
use Rattle.std.specs.Prelude.{ℕ, Bool, true, false, List, [], ◌∷◌, ◌++◌, get_or, drop}
use Rattle.record.specs.Answers.{Told}
use Rattle.record.specs.declared.Record.{Record}
use Rattle.record.specs.declared.Outcome.{Outcome}
use Rattle.step_stamps.specs.declared.SaveStamp.{SaveStamp}
use Rattle.log_layout.specs.Log.{full}
use Rattle.calls.specs.Calls.{Work, AnyCall}
use Rattle.calls.specs.Calls.AnyCall.{opens, calls}
use Rattle.calls.specs.Lending.{Stored, Lending, call_of, fits, leaves_of}
use Rattle.noting.specs.Recorded.{with_log}
use Rattle.noting.specs.Through.{leaves_through}
use Rattle.demand_steps.specs.Knowing.{Heard, hears}
use Rattle.demand_chains.specs.Sending.{Sent}

pub record Held : Type 0 where
  pub state : Record
  pub accepted : List ℕ
  pub candidate : List ℕ
  pub recovery : List ℕ
  pub exchange : List ℕ
  pub table : List ℕ
  pub log : List ℕ

-- what a report stores
pub data Payload : Type 0 where
  structured : (new old : List ℕ) → Payload
  updated rolledBack : (payload : ℕ) → Payload

-- what a call is given besides what is held; those of Given true are the recorder's too. "An opening stands only at the start of a chain."
pub data Given : Bool → Type 0 where
  begin : {logged : Bool} (structural : Bool) (new old pairs : List ℕ) → Given logged
  ask : {logged : Bool} → Work → Given logged
  report : {logged : Bool} → Payload → (ticket : ℕ) → Outcome → Given logged
  edit : (new old : List ℕ) → Given false
  commit : {logged : Bool} → Given logged
  recover : {logged : Bool} (length : ℕ) → Given logged
  recover_retained : {logged : Bool} → Given logged
  refresh : {logged : Bool} (length : ℕ) → Given logged
  stamp : (domain : ℕ) → Given false
  check : (domain : ℕ) → SaveStamp → Given false

-- the call with all that it is lent
abbrev pub stores : Held → Payload → Stored
stores h (structured new old) = Stored.structured h.candidate h.recovery new old
stores h (updated payload) = Stored.updated h.table payload
stores h (rolledBack payload) = Stored.rolledBack h.table payload

abbrev pub lends : {logged : Bool} → Held → Given logged → Lending logged
lends h (begin structural new old pairs) = Lending.begin structural h.candidate h.recovery h.table new old pairs
lends h (ask w) = Lending.ask w
lends h (report p ticket outcome) = Lending.report (stores h p) ticket outcome
lends h (edit new old) = Lending.edit h.candidate h.recovery new old
lends h commit = Lending.commit h.accepted h.candidate
lends h (recover n) = Lending.recover h.accepted h.exchange n
lends h recover_retained = Lending.recover_retained h.accepted h.recovery h.exchange
lends h (refresh n) = Lending.refresh h.accepted h.exchange n
lends h (stamp domain) = Lending.stamp domain
lends h (check domain s) = Lending.check domain s

-- a accepted, c candidate, o recovery, x exchange, t the table
abbrev pub holding : Record → List ℕ → List ℕ → List ℕ → List ℕ → List ℕ → List ℕ → Held
holding r a c o x t log = record { state = r; accepted = a; candidate = c; recovery = o; exchange = x; table = t; log = log }

-- the areas and the table as a call has left them, each in its place among those that it was lent
abbrev pub keeps_report : Held → Payload → List (List ℕ) → Held
keeps_report h (structured new old) l = holding h.state h.accepted (get_or l 0 []) (get_or l 1 []) h.exchange h.table h.log
keeps_report h (updated payload) l = holding h.state h.accepted h.candidate h.recovery h.exchange (get_or l 0 []) h.log
keeps_report h (rolledBack payload) l = holding h.state h.accepted h.candidate h.recovery h.exchange (get_or l 0 []) h.log

abbrev pub keeps : {logged : Bool} → Held → Given logged → List (List ℕ) → Held
keeps h (begin structural new old pairs) l = holding h.state h.accepted (get_or l 0 []) (get_or l 1 []) h.exchange (get_or l 2 []) h.log
keeps h (ask w) l = h
keeps h (report p ticket outcome) l = keeps_report h p l
keeps h (edit new old) l = holding h.state h.accepted (get_or l 0 []) (get_or l 1 []) h.exchange h.table h.log
keeps h commit l = holding h.state (get_or l 0 []) (get_or l 1 []) h.recovery h.exchange h.table h.log
keeps h (recover n) l = holding h.state (get_or l 0 []) h.candidate h.recovery (get_or l 1 []) h.table h.log
keeps h recover_retained l = holding h.state (get_or l 0 []) h.candidate (get_or l 1 []) (get_or l 2 []) h.table h.log
keeps h (refresh n) l = holding h.state (get_or l 0 []) h.candidate h.recovery (get_or l 1 []) h.table h.log
keeps h (stamp domain) l = h
keeps h (check domain s) l = h

-- and the record and the log
abbrev pub handed_back : Record → List ℕ → Held → Held
handed_back r log h = holding r h.accepted h.candidate h.recovery h.exchange h.table log

-- a call of the transaction, or of the recorder; "the caller may fill the exchange area between calls"
pub data Doing : Type 0 where
  transacts : Given false → Doing
  records : Given true → Doing
  fills : (exchange : List ℕ) → Doing

-- what is held afterwards, by the definitions that the contracts cite
abbrev pub does : Held → Doing → Held
does h (transacts g) = let v = leaves_of h.state (lends h g) in handed_back v.told.state h.log (keeps h g v.lent)
does h (records g) =
    let v = leaves_through h.state h.log (lends h g) in handed_back v.told.state (get_or v.lent 0 []) (keeps h g (drop 1 v.lent))
does h (fills x) = holding h.state h.accepted h.candidate h.recovery x h.table h.log

-- what is heard of it
abbrev pub hearing : AnyCall → Told → List Heard
hearing (opens given accepted) t = []
hearing (calls c) t = hears c t ∷ []

abbrev pub hears_of : Held → Doing → List Heard
hears_of h (transacts g) = hearing (call_of (lends h g)) (leaves_of h.state (lends h g)).told
hears_of h (records g) = hearing (call_of (lends h g)) (leaves_through h.state h.log (lends h g)).told
hears_of h (fills x) = []

-- the call as it is sent: its sizes, and where it goes through the log, the log's head and room
abbrev pub sending : AnyCall → Bool → Bool → Bool → List Sent
sending (opens given accepted) sized sound full = []
sending (calls c) sized sound full = record { call = c; sized = sized; sound = sound; full = full } ∷ []

abbrev pub sends : Held → Doing → List Sent
sends h (transacts g) = sending (call_of (lends h g)) (fits (lends h g)) true false
sends h (records g) =
    let all = with_log (fits (lends h g)) h.log in sending (call_of (lends h g)) all.sized all.sound (full h.log)
sends h (fills x) = []

-- a chain of them, each given what the last left
unfoldable pub after_held : Held → List Doing → Held
after_held h [] = h
after_held h (d ∷ ds) = after_held (does h d) ds

unfoldable pub heard_held : Held → List Doing → List Heard
heard_held h [] = []
heard_held h (d ∷ ds) = hears_of h d ++ heard_held (does h d) ds

unfoldable pub sent_held : Held → List Doing → List Sent
sent_held h [] = []
sent_held h (d ∷ ds) = sends h d ++ sent_held (does h d) ds
