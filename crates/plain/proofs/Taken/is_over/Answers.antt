-- `plain::Taken::is_over` meets its contract: the code is the definition. Assumes nothing.
use mathlib.Core.Path.{ap}
use mathlib.Core.Bool.{Bool}
use lib.Dec.{ltb}
use Rattle.choice.specs.Pick.{◌and◌, ◌or◌}
use Rattle.plain.specs.Plain.{is_over}
use Rattle.plain.proofs.Taken.is_over.Goals as goal

pub returns : goal.returns
unfolding is_over ◌and◌ ◌or◌
returns c =
    let t = c.args.self in
    ap (λ (b : Bool). b and (t.closed or ltb 0 t.size)) c.is_updated.ensures
