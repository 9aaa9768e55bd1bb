-- `plain::Taken::is_updating` meets its contract: the code is the definition. Assumes nothing.
use mathlib.Core.Path.{ap}
use mathlib.Core.Bool.{Bool, true, not}
use lib.Dec.{leb}
use Rattle.choice.specs.Pick.{◌and◌, ◌or◌}
use Rattle.plans.specs.Counts.{lead}
use Rattle.plain.specs.Plain.{is_updating}
use Rattle.plain.proofs.Taken.is_updating.Goals as goal

pub returns : goal.returns
unfolding is_updating ◌and◌ ◌or◌
returns c =
    let t = c.args.self in
    ap (λ (b : Bool). not t.turned and (not t.structural or leb (lead true) t.done and not b)) c.is_over.ensures
