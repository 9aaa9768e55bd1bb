-- `templates::first_fitting` meets its contract: the first that fits of those left stays what it was at the start. Assumes nothing.
use Rattle.std.proofs.Common.{◌∙◌}
use Rattle.templates.proofs.Passing.{first_end, first-some, first-none}
use Rattle.templates.proofs.first_fitting.Goals as goal

pub returns-in-Ok : goal.returns-in-Ok
returns-in-Ok c = first-some _ _ _ _ c.in-Some.ensures.cases.0 c.in-Ok.ensures ∙ c.loop-key.invariant

pub loop-key-preserved : goal.loop-key-preserved
loop-key-preserved c =
    rw c.next_template-rest.ensures.value (first-none _ _ _ _ c.in-Some.ensures.cases.0 c.in_default-fits.ensures)
    ∙ c.loop-key.invariant

pub returns : goal.returns
returns c = first_end _ _ c.in_default.ensures.cases ∙ c.loop-key.invariant
