-- Document 01, "The steps": begin, begin structural and edit. Assumes nothing.
use Rattle.std.specs.Prelude.{ℕ, Bool, true, false, not, eqb, ltb, List, [], ◌∷◌}
use Rattle.choice.specs.Pick.{pick, ◌or◌}
use Rattle.phases.specs.Phases.{none, remove}
use Rattle.batch.specs.Batch.{limit}
use Rattle.record.specs.Fields.{top}
use Rattle.record.specs.Fields.{with_place, with_batch, with_staged, with_lengths, spent}
use Rattle.record.specs.Answers.{Told, answer}
use Rattle.answers.specs.declared.Refusal.{Refusal}
use Rattle.bars.specs.Bars.{Bar, ◌whenever◌}
use Rattle.gates.specs.Gates.{gate_of, gated, barring, long_payloads}
use Rattle.record.specs.declared.Record.{Record}
use Rattle.record.specs.declared.Beginning.{Beginning}
use Rattle.answers.specs.declared.Answer.TheVariants.{Done}
use Rattle.answers.specs.declared.Was.TheVariants.{Nothing}
use Rattle.answers.specs.declared.Refusal.TheVariants.{Pending, Idle, Capacity, TooMany}

-- "phase 0, or 1 for structural"
unfoldable pub first_phase : Bool → ℕ
first_phase structural = pick structural remove none

-- "entries = pairs, other counts 0, not restoring, no ticket"
unfoldable pub begun : ℕ → Beginning → Record → Record
begun phase b r =
    spent (with_place phase 0 0 (with_batch b.actions 0 0 false
    (with_staged true (with_lengths r.accepted b.candidate b.recovery r))))

-- "Begin, begin structural: 1, 3, 8, 9.", with 14 and 15 in the place of 8; request 3: "Capacity when that count is at the u64 maximum,
-- after Pending"
abbrev pub begin_bars : Record → Beginning → List (Bar Refusal)
begin_bars r b =
    Pending whenever r.staged
    ∷ Capacity whenever (eqb r.revision top or eqb r.replacements top)
    ∷ long_payloads b.candidate b.recovery
    (TooMany whenever ltb limit b.actions
    ∷ [])

-- "Copies both payloads and the pairs"
unfoldable pub begin_own : Bool → Record → Beginning → Told
begin_own structural r b = barring (begin_bars r b) r (answer (Done Nothing) (begun (first_phase structural) b r))

abbrev pub begin_step : Bool → Bool → Bool → Record → Beginning → Told
begin_step sized sound structural r b = gated (gate_of sized sound r) r (begin_own structural r b)

-- "Edit replaces both payloads: 2, 8. All else, phase included, is kept.", with 14 and 15 in the place of 8
abbrev pub edit_bars : Record → ℕ → ℕ → List (Bar Refusal)
edit_bars r candidate recovery = Idle whenever not r.staged ∷ long_payloads candidate recovery []

unfoldable pub edit_own : Record → ℕ → ℕ → Told
edit_own r candidate recovery =
    barring (edit_bars r candidate recovery) r (answer (Done Nothing) (with_lengths r.accepted candidate recovery r))

abbrev pub edit_step : Bool → Bool → Record → ℕ → ℕ → Told
edit_step sized sound r candidate recovery = gated (gate_of sized sound r) r (edit_own r candidate recovery)
