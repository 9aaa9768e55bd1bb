-- `plain::Taken::recovery_allowed` meets its contract. Assumes nothing.
use mathlib.Core.Path.{refl, ap}
use mathlib.Core.Bool.{Bool}
use Rattle.choice.specs.Pick.{◌and◌}
use Rattle.choice.proofs.Picks.{yes, no}
use Rattle.plain.specs.Plain.{recovery_allowed}
use Rattle.plain.proofs.Taken.recovery_allowed.Goals as goal

pub returns-then-self : goal.returns-then-self
unfolding recovery_allowed ◌and◌
returns-then-self c =
    let t = c.args.self in
    ap (λ (b : Bool). t.running and b) (yes _ c.if-self.true c.is_back.ensures)

pub returns : goal.returns
unfolding recovery_allowed ◌and◌
returns c =
    let t = c.args.self in
    ap (λ (b : Bool). t.running and b) (no _ c.if-self.false refl)
