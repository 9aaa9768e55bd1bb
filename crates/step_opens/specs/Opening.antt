-- Document 01, "The steps": open. Assumes nothing.
use Rattle.std.specs.Prelude.{ℕ, Bool, not, List, [], ◌∷◌}
use Rattle.record.specs.Answers.{Told, answer}
use Rattle.record.specs.Given.{start}
unfoldable pub use Rattle.record.specs.Given.{opening}
use Rattle.record.specs.declared.Opening.{Opening}
use Rattle.answers.specs.declared.Refusal.{Refusal}
use Rattle.bars.specs.Bars.{Bar, ◌whenever◌}
use Rattle.gates.specs.Gates.{barring, long_snapshot}
use Rattle.record.specs.declared.Record.{Record}
use Rattle.answers.specs.declared.Answer.TheVariants.{Done}
use Rattle.answers.specs.declared.Was.TheVariants.{Nothing}
use Rattle.answers.specs.declared.Refusal.TheVariants.{BadArea}

-- "the record of an opening at 0, 0 with an empty payload"; its count of replacements is 0
abbrev pub unopened : Record
unopened = opening start 0

-- "Refuses 6, 8, and then returns" that record, with 16 in the place of 8
abbrev pub open_bars : Bool → ℕ → List (Bar Refusal)
open_bars sized accepted = BadArea whenever not sized ∷ long_snapshot accepted []

unfoldable pub open_step : Bool → Opening → ℕ → Told
open_step sized given accepted = barring (open_bars sized accepted) unopened (answer (Done Nothing) (opening given accepted))
