-- Document 01, "The steps": both recoveries. Assumes nothing.
use Rattle.std.specs.Prelude.{ℕ, ◌+◌, Bool, not, eqb, ltb, List, [], ◌∷◌}
use Rattle.choice.specs.Pick.{◌or◌}
use Rattle.phases.specs.Phases.{none, recovered}
use Rattle.record.specs.Given.{at, opening}
use Rattle.record.specs.Answers.{Told, answer}
use Rattle.answers.specs.declared.Refusal.{Refusal}
use Rattle.bars.specs.Bars.{Bar, ◌whenever◌}
use Rattle.gates.specs.Gates.{gate_of, gated, barring, long_snapshot}
use Rattle.record.specs.declared.Record.{Record}
use Rattle.record.specs.declared.Opening.{Opening}
use Rattle.answers.specs.declared.Answer.TheVariants.{Done}
use Rattle.answers.specs.declared.Was.TheVariants.{Three}
use Rattle.answers.specs.declared.Refusal.TheVariants.{Idle, NotReady}

-- "4 if entries > 0 or phase not 0 or 13"
unfoldable pub unrestored : Record → Bool
unrestored r = ltb 0 r.entries or not (eqb r.phase.number none or eqb r.phase.number recovered)

-- of both recoveries: "2; 4 if .."
abbrev pub recover_bars : Record → List (Bar Refusal) → List (Bar Refusal)
recover_bars r next = Idle whenever not r.staged ∷ NotReady whenever unrestored r ∷ next

-- request 3: "a count of replacements, raised by commit, both recoveries and refresh"
abbrev pub after_recovery : Record → Opening
after_recovery r = at r.revision r.serial (r.replacements + 1)

-- "After commit and both recoveries: idle, counts 0, not restoring, candidate and recovery lengths 0": the record of an opening;
-- "both recoveries with the old accepted, candidate and recovery lengths"
abbrev pub recovered_to : ℕ → Record → Told
recovered_to accepted r = answer (Done (Three r.accepted r.candidate r.recovery)) (opening (after_recovery r) accepted)

-- "Recover (exchange area, length): 2; 4 if ..; 8.", with 16 in the place of 8
unfoldable pub recover_own : Record → ℕ → Told
recover_own r length = barring (recover_bars r (long_snapshot length [])) r (recovered_to length r)

-- "Recover from the retained payload: 2, 4 alike"
unfoldable pub recover_retained_own : Record → Told
recover_retained_own r = barring (recover_bars r []) r (recovered_to r.recovery r)

abbrev pub recover_step : Bool → Bool → Record → ℕ → Told
recover_step sized sound r length = gated (gate_of sized sound r) r (recover_own r length)

abbrev pub recover_retained_step : Bool → Bool → Record → Told
recover_retained_step sized sound r = gated (gate_of sized sound r) r (recover_retained_own r)
