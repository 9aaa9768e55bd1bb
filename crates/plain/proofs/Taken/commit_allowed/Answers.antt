-- `plain::Taken::commit_allowed` meets its contract: the code is the definition. Assumes nothing.
use mathlib.Core.Path.{ap}
use mathlib.Core.Bool.{Bool, not}
use Rattle.choice.specs.Pick.{◌and◌}
use Rattle.plain.specs.Plain.{commit_allowed}
use Rattle.plain.proofs.Taken.commit_allowed.Goals as goal

pub returns : goal.returns
unfolding commit_allowed ◌and◌
returns c =
    let t = c.args.self in
    ap (λ (b : Bool). t.running and not t.turned and b) c.is_done.ensures
