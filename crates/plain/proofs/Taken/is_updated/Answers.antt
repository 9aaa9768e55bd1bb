-- `plain::Taken::is_updated` meets its contract. Assumes nothing.
use Prim.Native.Nat.{ℕ, ◌+◌}
use mathlib.Core.Path.{ap}
use lib.Dec.{leb}
use native.Mathlib.Omega.{arith}
use Rattle.plain.specs.Plain.{is_updated}
use Rattle.plain.proofs.Bounds.{lead_bound}
use Rattle.plain.proofs.Taken.is_updated.Goals as goal

pub overflow_add-result : goal.overflow_add-result
overflow_add-result c =
    omega (arith, c.lead.ensures, lead_bound c.args.self.structural, c.requires.size)

pub returns : goal.returns
unfolding is_updated
returns c =
    let t = c.args.self in
    ap (λ (n : ℕ). leb (n + t.size) t.done) c.lead.ensures
