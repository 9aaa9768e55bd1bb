-- `tail_table::add_by` meets its contract. Assumes nothing.
use Rattle.std.proofs.Common.{◌≡◌, leb, Err, [], ◌∷◌, ◌∙◌, rules}
use Rattle.bars.specs.Bars.{◌whenever◌}
use Rattle.bars.proofs.Verdicts.{refused_in, let_by}
use Rattle.tail_answers.specs.declared.TailRefusal.TheVariants.{Present, Full}
use Rattle.tail_table.specs.Sweeping.{by_table}
use Rattle.tail_table.proofs.add_by.Goals as goal

pub returns-in_err-admit : goal.returns-in_err-admit
returns-in_err-admit c =
    let a = c.args in
    let e : c.from_residual.result ≡ Err c.in_err-admit.field-0.0 = search rules in
    e ∙ refused_in (by_table a.room a.used a.s []) (Present whenever a.s.met ∷ Full whenever leb a.room.records a.used ∷ []) c.admit.ensures c.in_err-admit.was

pub returns-in_err-bar : goal.returns-in_err-bar
returns-in_err-bar c =
    let a = c.args in
    let e : c.from_residual-in_err-bar.result ≡ Err c.in_err-bar.field-0.0 = search rules in
    let_by (by_table a.room a.used a.s []) (Present whenever a.s.met ∷ Full whenever leb a.room.records a.used ∷ []) c.admit.ensures c.in_ok-admit.was
    (e ∙ refused_in (Present whenever a.s.met ∷ []) (Full whenever leb a.room.records a.used ∷ []) c.bar.ensures c.in_err-bar.was)

pub returns : goal.returns
returns c =
    let a = c.args in
    let_by (by_table a.room a.used a.s []) (Present whenever a.s.met ∷ Full whenever leb a.room.records a.used ∷ []) c.admit.ensures c.in_ok-admit.was
    (let_by (Present whenever a.s.met ∷ []) (Full whenever leb a.room.records a.used ∷ []) c.bar.ensures c.in_ok-bar.was c.bar-2.ensures)
