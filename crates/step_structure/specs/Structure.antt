-- Document 01, "The steps": report structure, with its own refusals in the order given, behind the gate for 6 and 7; before it what a
-- Done report does to the record, once its ticket is taken. Assumes nothing.
use Rattle.std.specs.Prelude.{ℕ, ◌+◌, Bool, List, [], leb, Option, Some, None}
use Rattle.choice.specs.Pick.{pick}
use Rattle.phases.specs.Phases.{adopt, successor, boundary}
use Rattle.phases.specs.declared.Phase.{Phase}
use Rattle.tickets.specs.Live.{structure}
use Rattle.record.specs.Fields.{with_place, with_lengths, spent}
use Rattle.record.specs.Answers.{Told, answer}
use Rattle.record.specs.Given.{effect_of}
use Rattle.answers.specs.declared.Refusal.{Refusal}
use Rattle.bars.specs.Bars.{Bar}
use Rattle.gates.specs.Gates.{gate_of, gated, barring, long_payloads}
use Rattle.reporting.specs.Reporting.{stale, reported}
use Rattle.record.specs.declared.Record.{Record}
use Rattle.record.specs.declared.Outcome.{Outcome}
use Rattle.answers.specs.declared.Answer.TheVariants.{More, Finished}

-- "Done goes to the successor, raises forward (phases 1 to 6) or back (9 to 12)"; a live structure ticket has a phase with one
unfoldable pub onward : Option Phase → Record → Record
onward (Some next) r =
    with_place next.number (pick (leb r.phase.number adopt) (r.forward + 1) r.forward)
    (pick (leb r.phase.number adopt) r.back (r.back + 1)) r
onward None r = r

unfoldable pub advanced : Record → Record
advanced r = onward (successor r.phase.number) r

-- "and answers Finished at a boundary, else More"
unfoldable pub structure_done : Record → Told
structure_done r = pick (boundary (advanced r).phase.number) (answer Finished (advanced r)) (answer More (advanced r))

-- "store the payloads": "A length moves with its payload."
abbrev pub storing : ℕ → ℕ → Record → Record
storing candidate recovery r = with_lengths r.accepted candidate recovery r

-- "Report structure (both payloads): 10, 8.", with 14 and 15 in the place of 8
abbrev pub report_structure_bars : Record → ℕ → ℕ → ℕ → List (Bar Refusal)
report_structure_bars r ticket candidate recovery = stale structure ticket r (long_payloads candidate recovery [])

unfoldable pub report_structure_own : Record → ℕ → Outcome → ℕ → ℕ → Told
report_structure_own r ticket outcome candidate recovery =
    barring (report_structure_bars r ticket candidate recovery) r
    (reported (effect_of outcome) (spent (storing candidate recovery r)) (structure_done (spent (storing candidate recovery r))))

abbrev pub report_structure_step : Bool → Bool → Record → ℕ → Outcome → ℕ → ℕ → Told
report_structure_step sized sound r ticket outcome candidate recovery =
    gated (gate_of sized sound r) r (report_structure_own r ticket outcome candidate recovery)
