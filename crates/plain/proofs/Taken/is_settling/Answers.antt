-- `plain::Taken::is_settling` meets its contract. Assumes nothing.
use mathlib.Core.Path.{ap}
use mathlib.Core.Bool.{Bool}
use Rattle.choice.specs.Pick.{◌and◌, ◌or◌}
use Rattle.choice.proofs.Picks.{yes, no}
use Rattle.plain.specs.Plain.{is_settling}
use Rattle.plain.proofs.Taken.is_settling.Goals as goal

pub returns-then-self : goal.returns-then-self
unfolding is_settling ◌and◌
returns-then-self c =
    ap (λ (b : Bool). c.args.self.structural and b)
    (yes _ c.if-self.true (rw (c.is_left.ensures, c.is_back.ensures)))

pub returns : goal.returns
unfolding is_settling ◌and◌ ◌or◌
returns c =
    ap (λ (b : Bool). c.args.self.structural and b)
    (no _ c.if-self.false (rw (c.is_over.ensures, c.is_done.ensures)))
