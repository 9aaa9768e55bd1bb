-- `tail_table::admit` meets its contract. Assumes nothing.
use Rattle.std.proofs.Common.{◌≡◌, not, Err, [], ◌∷◌, ◌∙◌, rules}
use Rattle.choice.specs.Pick.{◌or◌}
use Rattle.bars.specs.Bars.{◌whenever◌}
use Rattle.bars.proofs.Verdicts.{refused_in, let_by}
use Rattle.tail_answers.specs.declared.TailRefusal.TheVariants.{BadArea, Damaged}
use Rattle.tail_table.specs.Sweeping.{unsound_by}
use Rattle.tail_table.proofs.admit.Goals as goal

pub returns-in_err-bar : goal.returns-in_err-bar
returns-in_err-bar c =
    let a = c.args in
    let e : c.from_residual.result ≡ Err c.in_err-bar.field-0.0 = search rules in
    e ∙ refused_in (BadArea whenever not a.room.sized ∷ []) (Damaged whenever unsound_by a.room a.used a.s ∷ []) c.bar.ensures c.in_err-bar.was

pub returns : goal.returns
unfolding ◌or◌
returns c =
    let a = c.args in
    let_by (BadArea whenever not a.room.sized ∷ []) (Damaged whenever unsound_by a.room a.used a.s ∷ []) c.bar.ensures c.in_ok-bar.was c.bar-2.ensures
