-- `step_ends::commit` meets its contract: a staged record's revision can be raised, and its count. Assumes nothing.
use Prim.Native.Nat.{◌<◌}
use mathlib.Core.Path.{◌≡◌}
use mathlib.Core.Bool.{Bool}
use native.Mathlib.Omega.{arith}
use borrow.Author.Tests.{not-false}
use Rattle.record.specs.Fields.{top}
use Rattle.record.specs.declared.Record.{Record}
use Rattle.bars.specs.Bars.{through}
use Rattle.gates.specs.Gates.{gate_of}
use Rattle.gates.proofs.Passing.{Gate}
use Rattle.std.specs.Prelude.{Ok}
use Rattle.gates.proofs.Passing.{barred_out, let_in}
use Rattle.gates.proofs.Behind.{room_behind}
use Rattle.step_ends.specs.Ending.{commit_bars, commit_own}
use Rattle.step_ends.proofs.commit.Goals as goal

pub returns-in-Err : goal.returns-in-Err
unfolding commit_own
returns-in-Err c =
    let r = c.args.r in
    barred_out _ (commit_bars r) c.commit_gate.ensures r _ c.in-Err.is c.refuse.ensures

room : {g : Gate} (sized sound : Bool) (r : Record) → g ≡ through (gate_of sized sound r) (commit_bars r) → g ≡ Ok tt → (r.revision < top) × (r.replacements < top)
room sized sound r = room_behind sized sound r (commit_bars r) (λ x. not-false _ x.0)

pub overflow_add-given : goal.overflow_add-given
overflow_add-given c =
    omega (arith, room _ _ _ c.commit_gate.ensures c.in_default.is)

pub overflow_add-given-2 : goal.overflow_add-given-2
overflow_add-given-2 c =
    omega (arith, room _ _ _ c.commit_gate.ensures c.in_default.is)

pub returns : goal.returns
unfolding commit_own
returns c =
    let r = c.args.r in
    let_in _ (commit_bars r) c.commit_gate.ensures r c.in_default.is
    (rw c.opened.ensures at c.answering.ensures)
