-- `script::read` meets its contract. Assumes nothing.
use Rattle.std.proofs.Common.{refl, sym, ap, ◌∙◌}
use Rattle.std.specs.Option.{is_some}
use borrow.Author.Tests.{ne_eqb, le-ltb}
use Rattle.choice.proofs.Picks.{yes, no}
use Rattle.text.specs.Writing.{bytes_of}
use Rattle.templates.specs.declared.Found.{Found}
use Rattle.script.specs.Reading.{lines_of, templates, read_as}
use Rattle.script.proofs.read.Goals as goal

pub returns-in-Some : goal.returns-in-Some
unfolding read_as templates lines_of bytes_of
returns-in-Some c =
    no _ (sym c.is_empty.ensures ∙ c.if-is_empty.false) (no _ (ne_eqb _ _ c.if-line-eq35.false) (no _ (le-ltb _ _ c.if-line-gt-LONGEST.false)
    (yes _ (ap (is_some {T = Found}) (sym c.in-Some.ensures)) refl)))
