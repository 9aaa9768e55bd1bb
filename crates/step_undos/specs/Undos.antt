-- Document 01, "The steps": report rollback, with its own refusal behind the gate for 6 and 7; before it what a Done report does to the
-- record, once its ticket is taken. Assumes nothing.
use Rattle.std.specs.Prelude.{ℕ, ◌-◌, min, Bool, List, [], eqb}
use Rattle.choice.specs.Pick.{pick}
use Rattle.phases.specs.Phases.{undo, recover_remove}
use Rattle.tickets.specs.Live.{rollback}
use Rattle.record.specs.Fields.{with_place, with_batch, spent}
use Rattle.record.specs.Answers.{Told, answer}
use Rattle.record.specs.Given.{effect_of}
use Rattle.answers.specs.declared.Refusal.{Refusal}
use Rattle.bars.specs.Bars.{Bar}
use Rattle.gates.specs.Gates.{gate_of, gated, barring}
use Rattle.reporting.specs.Reporting.{stale, reported}
use Rattle.record.specs.declared.Record.{Record}
use Rattle.record.specs.declared.Outcome.{Outcome}
use Rattle.answers.specs.declared.Answer.TheVariants.{More, Finished}

-- "Done takes that action off: entries and attempted fall, applied is at most entries"
abbrev pub lowered : Record → Record
lowered r = with_batch (r.entries - 1) (min r.applied (r.entries - 1)) (r.attempted - 1) r.restoring r

-- "phase 8 becomes 9"
unfoldable pub leaving : Record → Record
leaving r = with_place (pick (eqb r.phase.number undo) recover_remove r.phase.number) r.forward r.back r

-- "at zero Finished, and phase 8 becomes 9, else More"
unfoldable pub rollback_done : Record → Told
rollback_done r = pick (eqb (r.entries - 1) 0) (answer Finished (leaving (lowered r))) (answer More (lowered r))

-- "Report rollback (payload of the last action): 10."
abbrev pub report_rollback_bars : Record → ℕ → List (Bar Refusal)
report_rollback_bars r ticket = stale rollback ticket r []

unfoldable pub report_rollback_own : Record → ℕ → Outcome → Told
report_rollback_own r ticket outcome =
    barring (report_rollback_bars r ticket) r (reported (effect_of outcome) (spent r) (rollback_done (spent r)))

abbrev pub report_rollback_step : Bool → Bool → Record → ℕ → Outcome → Told
report_rollback_step sized sound r ticket outcome = gated (gate_of sized sound r) r (report_rollback_own r ticket outcome)
