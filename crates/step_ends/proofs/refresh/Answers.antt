-- `step_ends::refresh` meets its contract. Assumes nothing.
use mathlib.Core.Path.{sym, ◌∙◌}
use mathlib.Core.Logic.{◌≢◌}
use Rattle.choice.proofs.Tests.{eqb_ne}
use Rattle.record.specs.Fields.{top}
use Rattle.answers.specs.declared.Refusal.TheVariants.{Capacity}
use Rattle.bars.proofs.Passing.{clear}
use Rattle.gates.proofs.Passing.{barred_out, let_in, fails}
use Rattle.step_ends.specs.Ending.{refresh_bars, refresh_own}
use borrow.Author.Rules.{rules}
use Rattle.step_ends.proofs.refresh.Goals as goal

pub returns-in-Err : goal.returns-in-Err
unfolding refresh_own
returns-in-Err c =
    let a = c.args in
    barred_out _ (refresh_bars a.r a.length) c.refresh_gate.ensures a.r _ c.in-Err.is c.refuse.ensures

pub overflow_add-replacements : goal.overflow_add-replacements
overflow_add-replacements c =
    let bs = refresh_bars c.args.r c.args.length in
    let t = fails bs (clear _ bs (sym c.refresh_gate.ensures ∙ c.in_default.is)).1 Capacity in
    let n : c.args.r.replacements ≢ top = eqb_ne _ _ t in
    search (rules, n)

pub returns : goal.returns
unfolding refresh_own
returns c =
    let a = c.args in
    let_in _ (refresh_bars a.r a.length) c.refresh_gate.ensures a.r c.in_default.is c.answering.ensures
