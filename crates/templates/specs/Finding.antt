-- The first of several templates that a line fits. Each stands after its key, a byte, and ends with a newline. Assumes nothing.
use Rattle.std.specs.Prelude.{ℕ, Bool, true, false, not, List, [], ◌∷◌, Option, Some, None, Result, Ok, Err, eqb}
use Rattle.choice.specs.Pick.{pick}
use Rattle.text.specs.Writing.{newline_byte}
use Rattle.matching.specs.Templates.{blank, fits_from}
use Rattle.templates.specs.declared.Found.{Found}

-- what is left of the templates after the next newline
unfoldable pub after_line : List ℕ → List ℕ
after_line [] = []
after_line (byte ∷ rest) = pick (eqb byte newline_byte) rest (after_line rest)

abbrev pub found : ℕ → List ℕ → Found
found key row = record { key = key; numbers = row }

-- what a template gives where the line fits it, else what those after it give
abbrev pub found_or : ℕ → Result (List ℕ) (List ℕ) → Option Found → Option Found
found_or key (Ok row) later = Some (found key row)
found_or key (Err row) later = later

-- the key of the first template that the line fits, and the numbers; of the templates that are left, which start inside one that the line
-- does not fit, or at a key
unfoldable pub first_from : List ℕ → Bool → List ℕ → Option Found
first_from line inside [] = None
first_from line true (byte ∷ rest) = first_from line (not (eqb byte newline_byte)) rest
first_from line false (key ∷ rest) = found_or key (fits_from line blank 0 rest) (first_from line true rest)

abbrev pub first_fitting : List ℕ → List ℕ → Option Found
first_fitting line templates = first_from line false templates
