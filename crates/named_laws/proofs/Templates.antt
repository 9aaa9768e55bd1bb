-- Fitting a line to a template, as matching has it (matching/specs/Templates.antt), one byte that stands for itself; and the ends of looking
-- for the next newline and for the first template that fits, as templates has them (templates/specs/Finding.antt). Assumes nothing.
use mathlib.Core.Path.{◌≡◌, sym, ap}
use mathlib.Core.Bool.{false}
use mathlib.Core.List.{List}
use mathlib.Core.Logic.{◌≢◌}
use Prim.Native.Nat.{ℕ, ◌+◌, ◌≤◌, ◌<◌}
use lib.ListN.{length, drop, get_or}
use Rattle.std.specs.Prelude.{Some, None}
use Rattle.text.specs.Writing.{newline_byte}
use Rattle.matching.specs.Templates.{taken_at, fits_from}
use Rattle.matching.proofs.Turns.{fit-some}
use Rattle.templates.specs.Finding.{after_line, first_from}
use Rattle.named_laws.proofs.Numbers.{drop_past}

-- what was taken is the byte that the template has, and no number; n are the numbers before it, whose type matching keeps to itself
pub fit_same : (line templates : List ℕ) (n : _) (at i : ℕ) → i < length templates → get_or templates i 0 ≢ newline_byte → {next : ℕ}
    → taken_at line at (get_or templates i 0) ≡ Some (record { number = None; next = next })
    → fits_from line n next (drop (i + 1) templates) ≡ fits_from line n at (drop i templates)
fit_same line templates n at i h other e = fit-some line templates n at i h other (sym e)

module _ (templates : List ℕ) (i : ℕ) where
  pub after_end : length templates ≤ i → drop i templates ≡ after_line (drop i templates)
  unfolding after_line
  after_end h = rw (drop_past i templates h)

module _ (line templates : List ℕ) (at : ℕ) where
  pub first_end : length templates ≤ at → first_from line false (drop at templates) ≡ None
  unfolding first_from
  first_end h = ap (first_from line false) (drop_past at templates h)
