-- Document 01, "The steps": report update, with its own refusal behind the gate for 6 and 7; before it what a Done report does to the
-- record, once its ticket is taken. Assumes nothing.
use Rattle.std.specs.Prelude.{ℕ, ◌+◌, Bool, List, [], eqb}
use Rattle.choice.specs.Pick.{pick}
use Rattle.tickets.specs.Live.{update}
use Rattle.record.specs.Fields.{with_batch, adopting, spent}
use Rattle.record.specs.Answers.{Told, answer}
use Rattle.record.specs.Given.{effect_of}
use Rattle.answers.specs.declared.Refusal.{Refusal}
use Rattle.bars.specs.Bars.{Bar}
use Rattle.gates.specs.Gates.{gate_of, gated, barring}
use Rattle.reporting.specs.Reporting.{stale, reported}
use Rattle.record.specs.declared.Record.{Record}
use Rattle.record.specs.declared.Outcome.{Outcome}
use Rattle.answers.specs.declared.Answer.TheVariants.{More, Finished}

-- "Done raises applied"
abbrev pub raised : Record → Record
raised r = with_batch r.entries (r.applied + 1) r.attempted r.restoring r

-- "at the last Finished, and phase 5 becomes 6, else More"
unfoldable pub update_done : Record → Told
update_done r = pick (eqb (r.applied + 1) r.entries) (answer Finished (adopting (raised r))) (answer More (raised r))

-- "Report update (payload of action number applied): 10."
abbrev pub report_update_bars : Record → ℕ → List (Bar Refusal)
report_update_bars r ticket = stale update ticket r []

unfoldable pub report_update_own : Record → ℕ → Outcome → Told
report_update_own r ticket outcome = barring (report_update_bars r ticket) r (reported (effect_of outcome) (spent r) (update_done (spent r)))

abbrev pub report_update_step : Bool → Bool → Record → ℕ → Outcome → Told
report_update_step sized sound r ticket outcome = gated (gate_of sized sound r) r (report_update_own r ticket outcome)
