-- A reading of lines by way of a chunk of bytes: how it begins, and whether the next line stands in the chunk whole. Assumes nothing.
use Rattle.std.specs.Prelude.{ℕ, List, Bool, false, eqb, take, drop}
use Rattle.std.specs.Borrow.{MutBor}
use Rattle.std.specs.List.{list_any}
use Rattle.text.specs.Writing.{newline_byte}
use Rattle.console.specs.declared.input.Reading.{Reading}

-- nothing is read, and the input is not at its end
abbrev pub unread : MutBor (List ℕ) → Reading
unread chunk = record { chunk = chunk; filled = 0; at = 0; ended = false }

-- whether a newline stands among the bytes that were read, from the place on
abbrev pub line_held : List ℕ → ℕ → ℕ → Bool
line_held chunk filled at = list_any (λ byte. eqb byte newline_byte) (drop at (take filled chunk))
