-- `tail_table::move_by` meets its contract. Assumes nothing.
use Rattle.std.proofs.Common.{◌≡◌, not, ltb, Err, [], ◌∷◌, ◌∙◌, rules}
use Rattle.bars.specs.Bars.{◌whenever◌}
use Rattle.bars.proofs.Verdicts.{refused_in, let_by}
use Rattle.tail_answers.specs.declared.TailRefusal.TheVariants.{Absent, Backward}
use Rattle.tail_table.specs.Sweeping.{by_stamp}
use Rattle.tail_table.proofs.move_by.Goals as goal

pub returns-in_err-admit_claim : goal.returns-in_err-admit_claim
returns-in_err-admit_claim c =
    let a = c.args in
    let e : c.from_residual.result ≡ Err c.in_err-admit_claim.field-0.0 = search rules in
    e ∙ refused_in (by_stamp a.room a.used a.s a.claim []) (Absent whenever not a.s.met ∷ Backward whenever ltb a.offset a.s.offset ∷ []) c.admit_claim.ensures c.in_err-admit_claim.was

pub returns-in_err-bar : goal.returns-in_err-bar
returns-in_err-bar c =
    let a = c.args in
    let e : c.from_residual-in_err-bar.result ≡ Err c.in_err-bar.field-0.0 = search rules in
    let_by (by_stamp a.room a.used a.s a.claim []) (Absent whenever not a.s.met ∷ Backward whenever ltb a.offset a.s.offset ∷ []) c.admit_claim.ensures c.in_ok-admit_claim.was
    (e ∙ refused_in (Absent whenever not a.s.met ∷ []) (Backward whenever ltb a.offset a.s.offset ∷ []) c.bar.ensures c.in_err-bar.was)

pub returns : goal.returns
returns c =
    let a = c.args in
    let_by (by_stamp a.room a.used a.s a.claim []) (Absent whenever not a.s.met ∷ Backward whenever ltb a.offset a.s.offset ∷ []) c.admit_claim.ensures c.in_ok-admit_claim.was
    (let_by (Absent whenever not a.s.met ∷ []) (Backward whenever ltb a.offset a.s.offset ∷ []) c.bar.ensures c.in_ok-bar.was c.bar-2.ensures)
