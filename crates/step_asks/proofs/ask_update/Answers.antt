-- `step_asks::ask_update` meets its contract: a return for each test of the definition. Assumes nothing.
use mathlib.Core.Path.{refl, sym, ◌∙◌, ap}
use native.Mathlib.Omega.{arith}
use borrow.Author.Tests.{eq-eqb, ne_eqb}
use Rattle.choice.proofs.Picks.{yes, no}
use Rattle.record.specs.Answers.{answer}
use Rattle.answers.specs.declared.Answer.TheVariants.{Finished}
use Rattle.bars.proofs.Passing.{clear}
use Rattle.gates.proofs.Passing.{barred_out, let_in}
use Rattle.gates.proofs.Behind.{counts_behind}
use Rattle.step_asks.specs.Asks.{ask_update_bars, ask_update_own}
use Rattle.step_asks.proofs.ask_update.Goals as goal

pub returns-in-Err : goal.returns-in-Err
unfolding ask_update_own
returns-in-Err c =
    let r = c.args.r in
    barred_out _ (ask_update_bars r) c.ask_update_gate.ensures r _ c.in-Err.is c.refuse.ensures

pub returns-then-r : goal.returns-then-r
unfolding ask_update_own
returns-then-r c =
    let r = c.args.r in
    let_in _ (ask_update_bars r) c.ask_update_gate.ensures r c.in_default.is
    (yes _ (eq-eqb _ _ c.if-r.true) (c.answering.ensures ∙ ap (answer Finished) c.adopting.ensures))

pub returns-then-r-eq-MAX : goal.returns-then-r-eq-MAX
unfolding ask_update_own
returns-then-r-eq-MAX c =
    let r = c.args.r in
    let_in _ (ask_update_bars r) c.ask_update_gate.ensures r c.in_default.is
    (no _ (ne_eqb _ _ c.if-r.false) (yes _ (eq-eqb _ _ c.if-r-eq-MAX.true) c.refuse-then-r-eq-MAX.ensures))

pub overflow_add-started : goal.overflow_add-started
overflow_add-started c =
    let r = c.args.r in
    omega (arith, counts_behind _ _ r refl (clear _ (ask_update_bars r) (sym c.ask_update_gate.ensures ∙ c.in_default.is)).0)

pub returns : goal.returns
unfolding ask_update_own
returns c =
    let r = c.args.r in
    let_in _ (ask_update_bars r) c.ask_update_gate.ensures r c.in_default.is
    (no _ (ne_eqb _ _ c.if-r.false) (no _ (ne_eqb _ _ c.if-r-eq-MAX.false) c.issue.ensures))
