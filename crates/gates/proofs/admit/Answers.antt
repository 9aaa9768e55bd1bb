-- `gates::admit` meets its contract. Assumes nothing.
use mathlib.Core.Path.{◌≡◌}
use mathlib.Core.Bool.{Bool, true, false, not}
use native.Mathlib.Omega.{arith}
use Rattle.std.specs.Prelude.{Ok, Err}
use Rattle.choice.specs.Pick.{pick, ◌and◌}
use Rattle.answers.specs.declared.Refusal.TheVariants.{BadArea, Damaged}
use Rattle.bars.proofs.Passing.{apart}
use Rattle.gates.specs.Gates.{gate_of}
use Rattle.gates.proofs.Passing.{Gate}
use Rattle.gates.proofs.admit.Goals as goal

-- the second bar's test is turned in the definition
second : (a b : Bool) {g h : Gate} → g ≡ pick (not a) (Err BadArea) (Ok tt) → g ≡ Ok tt → h ≡ pick (not b) (Err Damaged) (Ok tt)
    → h ≡ pick (not a) (Err BadArea) (pick b (Ok tt) (Err Damaged))
unfolding pick
second true true e f p = p
second true false e f p = p
second false b e f p = apart e f

pub returns-in_err-bar : goal.returns-in_err-bar
unfolding gate_of pick
returns-in_err-bar c = grind arith

pub returns : goal.returns
unfolding gate_of ◌and◌
returns c = second c.args.found.sized _ c.bar.ensures c.in_ok-bar.was (rw c.whole.ensures at c.bar-2.ensures)
