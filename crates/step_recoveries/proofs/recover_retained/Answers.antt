-- `step_recoveries::recover_retained` meets its contract: behind its gate the record is staged, so that its count can be raised. Assumes
-- nothing.
use mathlib.Core.List.{[]}
use borrow.Author.Tests.{not-false}
use Rattle.gates.proofs.Passing.{barred_out, let_in}
use Rattle.gates.proofs.Behind.{room_behind}
use Rattle.step_recoveries.specs.Recovering.{recover_bars, recover_retained_own}
use Rattle.step_recoveries.proofs.recover_retained.Goals as goal

pub returns-in-Err : goal.returns-in-Err
unfolding recover_retained_own
returns-in-Err c = barred_out _ (recover_bars c.args.r []) c.recover_gate.ensures c.args.r _ c.in-Err.is c.refuse.ensures

pub recovered-requires : goal.recovered-requires
recovered-requires c =
    let r = c.args.r in
    (room_behind _ _ r (recover_bars r []) (λ x. not-false _ x.0) c.recover_gate.ensures c.in_default.is).1

pub returns : goal.returns
unfolding recover_retained_own
returns c = let_in _ (recover_bars c.args.r []) c.recover_gate.ensures c.args.r c.in_default.is c.recovered.ensures
