-- `plain::Taken::is_back` meets its contract. Assumes nothing.
use mathlib.Core.Path.{sym, ap}
use mathlib.Core.Bool.{Bool}
use Rattle.plans.specs.Counts as Counts
use Rattle.plain.specs.Plain.{is_back}
use Rattle.plain.proofs.Taken.is_back.Goals as goal

pub returns-then-self : goal.returns-then-self
unfolding is_back
returns-then-self c =
    let t = c.args.self in
    ap (λ (b : Bool). Counts.is_back b t.started t.undone) (sym c.if-self.true)

pub returns-else-self : goal.returns-else-self
unfolding is_back
returns-else-self c =
    let t = c.args.self in
    ap (λ (b : Bool). Counts.is_back b t.started t.undone) (sym c.if-self.false)
