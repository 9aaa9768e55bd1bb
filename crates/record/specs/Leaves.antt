-- What a call answers and leaves: what it tells, and each area and table that it is lent, in the order of its parameters.
-- Assumes nothing.
use Rattle.std.specs.Prelude.{ℕ, List}
use Rattle.choice.specs.Pick.{pick}
use Rattle.answers.specs.Classes.{refused}
use Rattle.record.specs.Answers.{Told}

pub record Leaves : Type 0 where
  pub told : Told
  pub lent : List (List ℕ)

abbrev pub leaves : Told → List (List ℕ) → Leaves
leaves t l = record { told = t; lent = l }

-- a refusal: "then nothing changes": what was lent stays, and else is what the step moves it to
abbrev pub moving : Told → List (List ℕ) → List (List ℕ) → Leaves
moving t lent moved = leaves t (pick (refused t.class) lent moved)
