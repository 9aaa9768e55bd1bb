-- `step_asks::ask_structure` meets its contract: a return for each test of the definition. Assumes nothing.
use borrow.Author.Tests.{eq-eqb, ne_eqb}
use Rattle.choice.specs.Pick.{◌or◌}
use Rattle.choice.proofs.Picks.{yes, no}
use Rattle.gates.proofs.Passing.{barred_out, let_in}
use Rattle.step_asks.specs.Asks.{ask_structure_bars, ask_structure_own}
use Rattle.step_asks.proofs.ask_structure.Goals as goal

pub returns-in-Err : goal.returns-in-Err
unfolding ask_structure_own
returns-in-Err c =
    let r = c.args.r in
    barred_out _ (ask_structure_bars r) c.ask_structure_gate.ensures r _ c.in-Err.is c.refuse.ensures

pub returns-then-p : goal.returns-then-p
unfolding ask_structure_own ◌or◌
returns-then-p c =
    let r = c.args.r in
    let_in _ (ask_structure_bars r) c.ask_structure_gate.ensures r c.in_default.is (yes _ c.if-p.true c.answering.ensures)

pub returns-then-r-eq-MAX : goal.returns-then-r-eq-MAX
unfolding ask_structure_own ◌or◌
returns-then-r-eq-MAX c =
    let r = c.args.r in
    let_in _ (ask_structure_bars r) c.ask_structure_gate.ensures r c.in_default.is
    (no _ c.if-p.false (yes _ (eq-eqb _ _ c.if-r-eq-MAX.true) c.refuse-then-r-eq-MAX.ensures))

pub returns : goal.returns
unfolding ask_structure_own ◌or◌
returns c =
    let r = c.args.r in
    let_in _ (ask_structure_bars r) c.ask_structure_gate.ensures r c.in_default.is
    (no _ c.if-p.false (no _ (ne_eqb _ _ c.if-r-eq-MAX.false) c.issue.ensures))
