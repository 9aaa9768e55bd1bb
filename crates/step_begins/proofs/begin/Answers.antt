-- `step_begins::begin` meets its contract. Assumes nothing.
use Prim.Native.Nat.{ℕ}
use mathlib.Core.Path.{sym, ◌∙◌, ap}
use Rattle.choice.proofs.Tests.{tests}
use Rattle.record.specs.Answers.{answer}
use Rattle.answers.specs.declared.Answer.TheVariants.{Done}
use Rattle.answers.specs.declared.Was.TheVariants.{Nothing}
use Rattle.answers.specs.declared.Refusal.TheVariants.{TooMany}
use Rattle.bars.proofs.Passing.{clear}
use Rattle.gates.proofs.Passing.{barred_out, let_in, fails}
use Rattle.step_begins.specs.Beginning.{begun, begin_bars, begin_own}
use Rattle.step_begins.proofs.begin.Goals as goal

pub returns-in-Err : goal.returns-in-Err
unfolding begin_own
returns-in-Err c =
    let a = c.args in
    barred_out _ (begin_bars a.r a.given) c.begin_gate.ensures a.r _ c.in-Err.is c.refuse.ensures

pub begun-requires : goal.begun-requires
begun-requires c =
    let a = c.args in
    let bs = begin_bars a.r a.given in
    let t = fails bs (clear _ bs (sym c.begin_gate.ensures ∙ c.in_default.is)).1 TooMany in
    omega tests

pub returns : goal.returns
unfolding begin_own
returns c =
    let a = c.args in
    let_in _ (begin_bars a.r a.given) c.begin_gate.ensures a.r c.in_default.is
    (c.answering.ensures ∙ ap (answer (Done Nothing)) (c.begun.ensures ∙ ap (λ (p : ℕ). begun p a.given a.r) c.first_phase-phase.ensures))
