-- `text::Page::put_decimal` meets its contract: what `io::decimal` puts is the decimal text. Assumes nothing.
use mathlib.Core.Path.{ap, ◌∙◌}
use native.Mathlib.Omega.{arith}
use Rattle.text.specs.Writing.{put_all}
use Rattle.text.proofs.Decimal.{few, decimal_text}
use Rattle.text.proofs.Page.put_decimal.Goals as goal

pub returns : goal.returns
returns c =
    let d = c.decimal-count in
    let fewest = d.ensures.len in
    c.put_text.ensures ∙ ap (put_all _) (d.ensures.digits ∙ decimal_text 20 _ _ (few _ _ (omega arith) fewest) fewest)
