-- A line whose numbers are told by a function that was called, as printing wrote it (lines/specs/Lines.antt). Assumes nothing.
use mathlib.Core.Path.{◌≡◌, ap, ◌∙◌}
use mathlib.Core.List.{List}
use Prim.Native.Nat.{ℕ}
use Rattle.text.specs.declared.Page.{Page}
use Rattle.text.specs.Writing.{put_all}
use Rattle.lines.specs.Lines.{line_text}

module _ (p : Page) where
  pub line_of : (word numbers : List ℕ) {q : Page} {told : List ℕ} → q ≡ put_all p (line_text word told) → told ≡ numbers
      → q ≡ put_all p (line_text word numbers)
  line_of word numbers e f = e ∙ ap (λ (l : List ℕ). put_all p (line_text word l)) f
