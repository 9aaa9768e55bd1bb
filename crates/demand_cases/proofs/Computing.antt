-- Calls and chains to be computed: to unfold one of these definitions is to unfold all that it computes by, so that those who compute
-- name it alone. Assumes nothing.
use Prim.Native.Nat.{ℕ}
use mathlib.Core.Path.{◌≡◌, refl}
use mathlib.Core.Bool.{Bool, true}
use mathlib.Core.List.{List, map}
use native.Mathlib.Omega.{arith}
use Rattle.choice.specs.Pick.{pick, ◌and◌, ◌or◌, ◌implies◌}
use Rattle.phases.specs.Phases.{has_successor, successor, boundary}
use Rattle.areas.specs.Areas.{long, sized, copied}
use Rattle.batch.specs.Batch.{table_sized, paired, pairs_in, stored}
use Rattle.answers.specs.Classes.{successful, granted, refusal_written}
use Rattle.record.specs.Answers.{Told}
use Rattle.tickets.specs.Live.{is_live}
use Rattle.record.specs.Given.{at}
use Rattle.record.specs.Fields.{adopting}
use Rattle.record.specs.declared.Record.{Record}
use Rattle.wholeness.specs.Whole.{lengths_fit, counts_fit, staged_fits, forward_fits, back_fits, restoring_fits, live_fits, whole}
use Rattle.completeness.specs.Complete.{complete}
use Rattle.gates.specs.Gates.{gate_of, gated}
use Rattle.step_opens.specs.Opening.{opening, open_step}
use Rattle.step_begins.specs.Beginning.{first_phase, begun, begin_own, edit_own}
use Rattle.step_asks.specs.Asks.{ask_structure_own, ask_update_own}
use Rattle.step_rollbacks.specs.Rollbacks.{ask_rollback_own, turned}
use Rattle.reporting.specs.Reporting.{reported}
use Rattle.step_structure.specs.Structure.{onward, advanced, structure_done, report_structure_own}
use Rattle.step_updates.specs.Updates.{update_done, report_update_own}
use Rattle.step_undos.specs.Undos.{leaving, rollback_done, report_rollback_own}
use Rattle.step_ends.specs.Ending.{commit_own, refresh_own}
use Rattle.step_recoveries.specs.Recovering.{unrestored, recover_own, recover_retained_own}
use Rattle.step_stamps.specs.Stamping.{stamp_step, passes, check_step}
use Rattle.log_layout.specs.Log.{log_sized, sound, full, appended, blank}
use Rattle.events.specs.Entries.{event_if}
use Rattle.noting.specs.Recorded.{with_log, recorded}
use Rattle.noting.specs.Through.{leaves_through}
use Rattle.calls.specs.Calls.{Call, step}
use Rattle.calls.specs.Kinds.{kind_of, written_as}
use Rattle.demand_logs.specs.Logged.{Logged, logged_step, logged, events}
use Rattle.demand_logs.specs.Holding.{Held, Doing, after_held, heard_held}
use Rattle.demand_chains.specs.Sending.{Sent, answered, after_sent, heard_sent}
use Rattle.demand_steps.specs.Watching as W
use Rattle.demand_steps.specs.Knowing.{Heard, Watch, unwatched}
use Rattle.demand_steps.specs.Watching.{sees, watch}
use Rattle.demand_chains.specs.DemandThree.{DemandThree}
use Rattle.demand_chains.proofs.Theorems.{demands}

-- a call on a record
unfoldable pub called : Record → Call → Told
unfolding pick ◌and◌ ◌or◌ ◌implies◌ has_successor successor boundary long is_live adopting lengths_fit counts_fit staged_fits forward_fits back_fits restoring_fits live_fits whole complete gate_of gated opening open_step first_phase begun begin_own edit_own ask_structure_own ask_update_own ask_rollback_own turned onward advanced structure_done update_done leaving rollback_done reported report_structure_own report_update_own report_rollback_own commit_own unrestored recover_own recover_retained_own refresh_own stamp_step passes check_step
called r c = step r c

abbrev pub performs : Record → Call → Bool
performs r c = successful (called r c).class

abbrev pub grants : Record → Call → Bool
grants r c = granted (called r c).class

-- a chain of calls as they are sent: the record that is reached, what the watcher then knows, and the numbers that are answered
unfoldable pub reached : Record → List Sent → Record
unfolding called refusal_written kind_of written_as answered after_sent
reached r ss = after_sent r ss

unfoldable pub known : Watch → Record → List Sent → Watch
unfolding reached heard_sent W.hears_report sees watch
known w r ss = watch w (heard_sent r ss)

unfoldable pub numbers : Record → List Sent → List ℕ
unfolding reached heard_sent
numbers r ss = map (λ (h : Heard). h.answer.number) (heard_sent r ss)

-- a chain through the recorder, an opening before it, and the events of the plain one
unfoldable pub through_log : Record → List ℕ → List Call → Logged
unfolding reached log_sized sound full appended blank sized with_log recorded leaves_through event_if events logged_step logged
through_log r log cs = logged r log cs

-- a chain of real calls
unfoldable pub held_after : Held → List Doing → Held
unfolding through_log copied table_sized paired pairs_in stored after_held
held_after h ds = after_held h ds

unfoldable pub held_seen : Held → List Doing → Watch
unfolding held_after heard_held W.hears_report sees watch unwatched
held_seen h ds = watch unwatched (heard_held h ds)

-- from an opening at revision 7, serial 0 and 2 replacements, with a payload of 3 bytes, which is not refused
abbrev pub start : Record
start = (open_step true (at 7 0 2) 3).state

pub opens : successful (open_step true (at 7 0 2) 3).class ≡ true
unfolding called
opens = refl

unfoldable pub now : List Sent → Record
unfolding reached
now ss = reached start ss

unfoldable pub seen : List Sent → Watch
unfolding known unwatched
seen ss = known unwatched start ss

-- demand 3, of every chain from there
pub demand : (ss : List Sent) → DemandThree (at 7 0 2) (now ss) (seen ss)
unfolding now seen
demand ss = demands true (at 7 0 2) 3 (omega arith) opens ss
