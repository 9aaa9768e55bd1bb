-- `tail_table::remove_by` meets its contract. Assumes nothing.
use Rattle.std.proofs.Common.{◌≡◌, not, Err, [], ◌∷◌, ◌∙◌, rules}
use Rattle.bars.specs.Bars.{◌whenever◌}
use Rattle.bars.proofs.Verdicts.{refused_in, let_by}
use Rattle.tail_answers.specs.declared.TailRefusal.TheVariants.{Absent}
use Rattle.tail_table.specs.Sweeping.{by_table}
use Rattle.tail_table.proofs.remove_by.Goals as goal

pub returns-in_err-admit : goal.returns-in_err-admit
returns-in_err-admit c =
    let a = c.args in
    let e : c.from_residual.result ≡ Err c.in_err-admit.field-0.0 = search rules in
    e ∙ refused_in (by_table a.room a.used a.s []) (Absent whenever not a.s.met ∷ []) c.admit.ensures c.in_err-admit.was

pub returns : goal.returns
returns c =
    let a = c.args in
    let_by (by_table a.room a.used a.s []) (Absent whenever not a.s.met ∷ []) c.admit.ensures c.in_ok-admit.was c.bar.ensures
