-- Document 01, "What a call answers" and "The steps", and document 02, requests 1 and 3: for each call, the numbers that it answers in the
-- order given, each with its test in the document's words. Where a sentence of document 01 has 8, 14, 15 and 16 "take its place in the
-- order of checks". Assumes nothing.
use Rattle.std.specs.Prelude.{ℕ, ◌+◌, ◌-◌, Bool, true, false, not, List, [], ◌∷◌, eqb, leb, ltb}
use Rattle.choice.specs.Pick.{◌and◌, ◌or◌}
use Rattle.phases.specs.Phases.{boundary}
use Rattle.areas.specs.Areas.{long}
use Rattle.batch.specs.Batch.{limit}
use Rattle.record.specs.Fields.{top}
use Rattle.tickets.specs.Live.{is_live}
use Rattle.tickets.specs.Live as Tickets
use Rattle.record.specs.declared.Record.{Record}
use Rattle.record.specs.declared.Beginning.{Beginning}
use Rattle.record.specs.declared.Outcome.{Outcome}
use Rattle.record.specs.declared.Outcome.TheVariants as O
use Rattle.wholeness.specs.Whole.{whole}
use Rattle.completeness.specs.Complete.{complete}
use Rattle.issuing.specs.Issuing.{worn}
use Rattle.calls.specs.Calls.{AnyCall}
use Rattle.calls.specs.Calls.AnyCall.{opens, calls}
use Rattle.calls.specs.Calls.Work.{structure, update, rollback}
use Rattle.calls.specs.Calls.Report.{structured, updated, rolledBack}
use Rattle.calls.specs.Calls.Call.{begin, ask, report, edit, commit, recover, recover_retained, refresh, stamp, check}
use Rattle.calls.specs.Lending.{unopened}
use Rattle.demand_refusals.specs.Rows.{Row, ◌when◌, otherwise, numbers}

-- the record that a refusal returns: "equal (a refused opening, which is given none, returns the one document 01 names)", which is
-- "the record of an opening at 0, 0 with an empty payload"
unfoldable pub returned : Record → AnyCall → Record
returned r (opens given accepted) = unopened
returned r (calls c) = r

abbrev pub phase_is : ℕ → Record → Bool
phase_is p r = eqb r.phase.number p

abbrev pub waiting : Outcome → Bool
waiting O.Waiting = true
waiting (O.Failed code) = false
waiting O.Done = false

abbrev pub failed : Outcome → Bool
failed O.Waiting = false
failed (O.Failed code) = true
failed O.Done = false

-- "Order: 6, 7, then the call's own in the order below"; 6: "an area, table, pair list or log of a wrong size"; 7: "record not whole;
-- log head .. not sound"
abbrev pub gate_rows : Bool → Bool → Record → List Row → List Row
gate_rows sized sound r own = 6 when not sized ∷ 7 when not (sound and whole r) ∷ own

-- in the place of 8, "a payload over 4,096": "14 candidate, 15 recovery, 16 snapshot (open, recover, refresh), in that order where
-- several apply. Number 8 is retired"
abbrev pub payload_rows : ℕ → ℕ → List Row → List Row
payload_rows candidate recovery next = 14 when long candidate ∷ 15 when long recovery ∷ next

abbrev pub snapshot_rows : ℕ → List Row → List Row
snapshot_rows length next = 16 when long length ∷ next

-- the call is performed
abbrev pub done_rows : List Row
done_rows = 0 when otherwise ∷ []

-- "Begin, begin structural: 1, 3, 8, 9."; 1: "while staged"; 3: "at revision 18446744073709551615", and by request 3 where the count of
-- replacements "is at the u64 maximum"; 9: "over 64 actions"
abbrev pub begin_rows : Record → Beginning → List Row
begin_rows r b =
    1 when r.staged
    ∷ 3 when (eqb r.revision top or eqb r.replacements top)
    ∷ payload_rows b.candidate b.recovery (9 when ltb limit b.actions ∷ done_rows)

-- "2; 4 if entries > 0 or phase not 0 or 13"; 2: "while not staged"
abbrev pub recover_rows : Record → List Row → List Row
recover_rows r own = 2 when not r.staged ∷ 4 when (ltb 0 r.entries or not (phase_is 0 r or phase_is 13 r)) ∷ own

-- "Waiting and Failed answer 21 and 22"; Done answers "Finished" at the last, "else More"
abbrev pub report_rows : Outcome → Bool → List Row
report_rows outcome last = 21 when waiting outcome ∷ 22 when failed outcome ∷ 24 when last ∷ 23 when otherwise ∷ []

unfoldable pub rows : Bool → Bool → Record → AnyCall → List Row
-- "Open ..: Refuses 6, 8"
rows sized sound r (opens given accepted) = 6 when not sized ∷ snapshot_rows accepted done_rows
rows sized sound r (calls (begin structural b)) = gate_rows sized sound r (begin_rows r b)
-- "phases 0, 5, 8 give 4; 7 and 13 give Finished; else 11, or a ticket"
rows sized sound r (calls (ask structure)) =
    gate_rows sized sound r
    (4 when (phase_is 0 r or phase_is 5 r or phase_is 8 r) ∷ 24 when (phase_is 7 r or phase_is 13 r) ∷ 11 when worn r ∷ 20 when otherwise ∷ [])
-- "phase neither 0 nor 5, or restoring, gives 5; applied = entries gives Finished ..; else 11, or a ticket"
rows sized sound r (calls (ask update)) =
    gate_rows sized sound r
    (5 when (not (phase_is 0 r or phase_is 5 r) or r.restoring) ∷ 24 when eqb r.applied r.entries ∷ 11 when worn r ∷ 20 when otherwise ∷ [])
-- "in phases 9 to 13 Finished .. Else 11 if attempted > 0 and the serial is at its maximum. Else .. entries = attempted .. With no
-- entries: Finished .. Else a ticket". Finished stands twice, so 11 comes first, with the phase in its test
rows sized sound r (calls (ask rollback)) =
    gate_rows sized sound r
    (11 when (not (leb 9 r.phase.number) and (ltb 0 r.attempted and worn r))
    ∷ 24 when (leb 9 r.phase.number or eqb r.attempted 0)
    ∷ 20 when otherwise
    ∷ [])
-- "Report structure (both payloads): 10, 8. Done goes to the successor .. and answers Finished at a boundary, else More."
rows sized sound r (calls (report (structured c o) t x)) =
    gate_rows sized sound r
    (10 when not (is_live Tickets.structure t r.live) ∷ payload_rows c o (report_rows x (boundary (r.phase.number + 1))))
-- "Report update ..: 10. Done raises applied; at the last Finished, .. else More."
rows sized sound r (calls (report updated t x)) =
    gate_rows sized sound r (10 when not (is_live Tickets.update t r.live) ∷ report_rows x (eqb (r.applied + 1) r.entries))
-- "Report rollback ..: 10. Done takes that action off: entries .. fall ..; at zero Finished, .. else More."
rows sized sound r (calls (report rolledBack t x)) =
    gate_rows sized sound r (10 when not (is_live Tickets.rollback t r.live) ∷ report_rows x (eqb (r.entries - 1) 0))
-- "Edit replaces both payloads: 2, 8."
rows sized sound r (calls (edit c o)) = gate_rows sized sound r (2 when not r.staged ∷ payload_rows c o done_rows)
-- "Commit: 2; 4 if not complete or phase not 0 or 7."
rows sized sound r (calls commit) =
    gate_rows sized sound r (2 when not r.staged ∷ 4 when (not (complete r) or not (phase_is 0 r or phase_is 7 r)) ∷ done_rows)
-- "Recover ..: 2; 4 ..; 8."
rows sized sound r (calls (recover n)) = gate_rows sized sound r (recover_rows r (snapshot_rows n done_rows))
-- "Recover from the retained payload: 2, 4 alike"
rows sized sound r (calls recover_retained) = gate_rows sized sound r (recover_rows r done_rows)
-- "Refresh: 1, 8", with 3 by request 3: "after Pending"
rows sized sound r (calls (refresh n)) =
    gate_rows sized sound r (1 when r.staged ∷ 3 when eqb r.replacements top ∷ snapshot_rows n done_rows)
-- "Stamp .., refused 1"; nothing is lent, so that there is no 6
rows sized sound r (calls (stamp domain)) = 7 when not (whole r) ∷ 1 when r.staged ∷ done_rows
-- "checking a stamp answers yes, no or 7"
rows sized sound r (calls (check domain s)) = 7 when not (whole r) ∷ done_rows

-- the numbers that document 01 lists for each call: those of its rows, which are the same for every record
unfoldable pub numbers_of : AnyCall → List ℕ
unfolding rows
numbers_of c = numbers (rows true true unopened c)
