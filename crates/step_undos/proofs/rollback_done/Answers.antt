-- `step_undos::rollback_done` meets its contract. Assumes nothing.
use Prim.Native.Nat.{ℕ, ◌-◌}
use mathlib.Core.Path.{ap, ◌∙◌}
use Rattle.choice.proofs.Picks.{yes, no}
use borrow.Author.Tests.{eq-eqb, ne_eqb}
use Rattle.record.specs.Fields.{with_batch}
use Rattle.record.specs.Answers.{answer}
use Rattle.record.specs.declared.Record.{Record}
use Rattle.answers.specs.declared.Answer.TheVariants.{More, Finished}
use Rattle.step_undos.specs.Undos.{leaving, rollback_done}
use Rattle.step_undos.proofs.rollback_done.Goals as goal

-- the action taken off, with a left applied
abbrev off : Record → ℕ → Record
off r a = with_batch (r.entries - 1) a (r.attempted - 1) r.restoring r

pub returns-then-left-eq0 : goal.returns-then-left-eq0
unfolding rollback_done
returns-then-left-eq0 c =
    let r = c.args.r in
    yes _ (eq-eqb _ _ c.if-left-eq0.true)
    (c.answering.ensures ∙ ap (answer Finished) (c.leaving.ensures ∙ ap (λ (a : ℕ). leaving (off r a)) c.min.ensures))

pub returns : goal.returns
unfolding rollback_done
returns c =
    let r = c.args.r in
    no _ (ne_eqb _ _ c.if-left-eq0.false) (c.answering-2.ensures ∙ ap (λ (a : ℕ). answer More (off r a)) c.min.ensures)
