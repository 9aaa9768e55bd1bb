-- Document 01, "The steps": ask rollback, with its own refusal behind the gate for 6 and 7. Assumes nothing.
use Rattle.std.specs.Prelude.{ℕ, ◌-◌, Bool, true, [], ◌∷◌, eqb, leb, ltb}
use Rattle.choice.specs.Pick.{pick, ◌and◌}
use Rattle.phases.specs.Phases.{remove, ready, undo, recover_remove}
use Rattle.record.specs.Fields.{with_place, with_batch, spent}
use Rattle.record.specs.Answers.{Told, answer}
use Rattle.bars.specs.Bars.{◌whenever◌}
use Rattle.gates.specs.Gates.{gate_of, gated, barring}
use Rattle.issuing.specs.Issuing.{issue, worn}
use Rattle.record.specs.declared.Record.{Record}
use Rattle.tickets.specs.declared.Live.TheVariants.{Rollback}
use Rattle.answers.specs.declared.Answer.TheVariants.{Finished}
use Rattle.answers.specs.declared.Refusal.TheVariants.{Worn}

-- "restoring is set, entries = attempted", and "a phase 1 to 7 becomes" to
unfoldable pub turned : ℕ → Record → Record
turned to r =
    with_place (pick (leb remove r.phase.number and leb r.phase.number ready) to r.phase.number) r.forward r.back
    (with_batch r.attempted r.applied r.attempted true r)

-- "Ask rollback: in phases 9 to 13 Finished, nothing changes. Else 11 if attempted > 0 and the serial is at its maximum. Else
-- .. the live ticket ends. With no entries: Finished, and a phase 1 to 7 becomes 9. Else a ticket for the last action, and a
-- phase 1 to 7 becomes 8."
unfoldable pub ask_rollback_own : Record → Told
ask_rollback_own r =
    pick (leb recover_remove r.phase.number) (answer Finished r)
    (barring (Worn whenever (ltb 0 r.attempted and worn r) ∷ []) r
    (pick (eqb r.attempted 0) (answer Finished (spent (turned recover_remove r)))
    (issue Rollback (r.attempted - 1) (turned undo r))))

abbrev pub ask_rollback_step : Bool → Bool → Record → Told
ask_rollback_step sized sound r = gated (gate_of sized sound r) r (ask_rollback_own r)
