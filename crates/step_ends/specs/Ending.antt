-- Document 01, "The steps": commit and refresh. Assumes nothing.
use Rattle.std.specs.Prelude.{ℕ, ◌+◌, Bool, not, eqb, List, [], ◌∷◌}
use Rattle.choice.specs.Pick.{◌or◌}
use Rattle.phases.specs.Phases.{none, ready}
use Rattle.completeness.specs.Complete.{complete}
use Rattle.record.specs.Fields.{top, with_lengths, with_replacements}
use Rattle.record.specs.Given.{at, opening}
use Rattle.record.specs.declared.Opening.{Opening}
use Rattle.record.specs.Answers.{Told, answer}
use Rattle.answers.specs.declared.Refusal.{Refusal}
use Rattle.bars.specs.Bars.{Bar, ◌whenever◌}
use Rattle.gates.specs.Gates.{gate_of, gated, barring, long_snapshot}
use Rattle.record.specs.declared.Record.{Record}
use Rattle.answers.specs.declared.Answer.TheVariants.{Done}
use Rattle.answers.specs.declared.Was.TheVariants.{One, Three}
use Rattle.answers.specs.declared.Refusal.TheVariants.{Pending, Idle, Capacity, NotReady}

-- "Commit: 2; 4 if not complete or phase not 0 or 7."
abbrev pub commit_bars : Record → List (Bar Refusal)
commit_bars r =
    Idle whenever not r.staged
    ∷ NotReady whenever (not (complete r) or not (eqb r.phase.number none or eqb r.phase.number ready))
    ∷ []

-- "revision plus one"; request 3: "a count of replacements, raised by commit, both recoveries and refresh"
abbrev pub after_commit : Record → Opening
after_commit r = at (r.revision + 1) r.serial (r.replacements + 1)

-- "After commit and both recoveries: idle, counts 0, not restoring, candidate and recovery lengths 0": the record of an opening;
-- "Commit answers with the old accepted and recovery lengths and entries"
unfoldable pub commit_own : Record → Told
commit_own r =
    barring (commit_bars r) r
    (answer (Done (Three r.accepted r.recovery r.entries)) (opening (after_commit r) r.candidate))

-- "Refresh: 1, 8", with 16 in the place of 8; request 3: "Capacity when that count is at the u64 maximum, after Pending"
abbrev pub refresh_bars : Record → ℕ → List (Bar Refusal)
refresh_bars r length = Pending whenever r.staged ∷ Capacity whenever eqb r.replacements top ∷ long_snapshot length []

-- the accepted length and the count alone
abbrev pub refreshed : ℕ → Record → Record
refreshed length r = with_replacements (r.replacements + 1) (with_lengths length r.candidate r.recovery r)

-- "refresh with the old accepted one"
unfoldable pub refresh_own : Record → ℕ → Told
refresh_own r length = barring (refresh_bars r length) r (answer (Done (One r.accepted)) (refreshed length r))

abbrev pub commit_step : Bool → Bool → Record → Told
commit_step sized sound r = gated (gate_of sized sound r) r (commit_own r)

abbrev pub refresh_step : Bool → Bool → Record → ℕ → Told
refresh_step sized sound r length = gated (gate_of sized sound r) r (refresh_own r length)
