-- Document 01, "The steps": ask structure and ask update, each with its own refusals in the order given, behind the gate for 6 and 7.
-- Assumes nothing.
use Rattle.std.specs.Prelude.{◌+◌, Bool, not, List, [], ◌∷◌, eqb}
use Rattle.choice.specs.Pick.{pick, ◌or◌}
use Rattle.phases.specs.Phases.{none, updates, ready, undo, recovered}
use Rattle.record.specs.Fields.{with_batch, adopting}
use Rattle.record.specs.Answers.{Told, answer}
use Rattle.answers.specs.declared.Refusal.{Refusal}
use Rattle.bars.specs.Bars.{Bar, ◌whenever◌}
use Rattle.gates.specs.Gates.{gate_of, gated, barring}
use Rattle.issuing.specs.Issuing.{issue, worn}
use Rattle.record.specs.declared.Record.{Record}
use Rattle.tickets.specs.declared.Live.TheVariants.{Structure, Update}
use Rattle.answers.specs.declared.Answer.TheVariants.{Finished}
use Rattle.answers.specs.declared.Refusal.TheVariants.{NotReady, Recovering, Worn}

-- "11"
abbrev pub worn_bars : Record → List (Bar Refusal)
worn_bars r = Worn whenever worn r ∷ []

-- "Ask structure: phases 0, 5, 8 give 4; 7 and 13 give Finished; else 11, or a ticket"
abbrev pub ask_structure_bars : Record → List (Bar Refusal)
ask_structure_bars r =
    NotReady whenever (eqb r.phase.number none or eqb r.phase.number updates or eqb r.phase.number undo) ∷ []

unfoldable pub ask_structure_own : Record → Told
ask_structure_own r =
    barring (ask_structure_bars r) r
    (pick (eqb r.phase.number ready or eqb r.phase.number recovered) (answer Finished r)
    (barring (worn_bars r) r
    (issue Structure r.phase.number r)))

-- "attempted becomes applied + 1"
abbrev pub started : Record → Record
started r = with_batch r.entries r.applied (r.applied + 1) r.restoring r

-- "Ask update: phase neither 0 nor 5, or restoring, gives 5; applied = entries gives Finished, and phase 5 becomes 6; else 11,
-- or a ticket, and attempted becomes applied + 1."
abbrev pub ask_update_bars : Record → List (Bar Refusal)
ask_update_bars r = Recovering whenever (not (eqb r.phase.number none or eqb r.phase.number updates) or r.restoring) ∷ []

unfoldable pub ask_update_own : Record → Told
ask_update_own r =
    barring (ask_update_bars r) r
    (pick (eqb r.applied r.entries) (answer Finished (adopting r))
    (barring (worn_bars r) r
    (issue Update r.applied (started r))))

abbrev pub ask_structure_step : Bool → Bool → Record → Told
ask_structure_step sized sound r = gated (gate_of sized sound r) r (ask_structure_own r)

abbrev pub ask_update_step : Bool → Bool → Record → Told
ask_update_step sized sound r = gated (gate_of sized sound r) r (ask_update_own r)
