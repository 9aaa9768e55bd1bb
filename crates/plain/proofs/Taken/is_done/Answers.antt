-- `plain::Taken::is_done` meets its contract. Assumes nothing.
use mathlib.Core.Path.{sym, ap}
use mathlib.Core.Bool.{Bool}
use Rattle.plans.specs.Counts as Counts
use Rattle.plain.specs.Plain.{is_done}
use Rattle.plain.proofs.Taken.is_done.Goals as goal

pub returns-then-self : goal.returns-then-self
unfolding is_done
returns-then-self c =
    let t = c.args.self in
    ap (λ (b : Bool). Counts.is_done b t.size t.done) (sym c.if-self.true)

pub returns-else-self : goal.returns-else-self
unfolding is_done
returns-else-self c =
    let t = c.args.self in
    ap (λ (b : Bool). Counts.is_done b t.size t.done) (sym c.if-self.false)
