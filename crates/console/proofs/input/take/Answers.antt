-- `console::input::take` meets its contract: the page stays the loan that it was, and as long. Assumes nothing.
use mathlib.Core.Path.{◌∙◌}
use Rattle.console.proofs.Loans.{as_lent}
use Rattle.console.proofs.input.take.Goals as goal

pub loop-i-preserved : goal.loop-i-preserved
loop-i-preserved c =
    let k = as_lent _ _ in
    rw c.put_byte.ensures (k.0 ∙ c.loop-i.invariant.0, k.1 ∙ c.loop-i.invariant.1)
