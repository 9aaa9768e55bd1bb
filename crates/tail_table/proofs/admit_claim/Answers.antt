-- `tail_table::admit_claim` meets its contract: a return for each answer of the transaction's check. Assumes nothing.
use Rattle.std.proofs.Common.{◌≡◌, Err, ◌∙◌, rules}
use Rattle.tail_table.proofs.Claims.{turned_back, checks, at_stamp, at_record}
use Rattle.tail_table.proofs.admit_claim.Goals as goal

pub returns-in_err-admit : goal.returns-in_err-admit
returns-in_err-admit c =
    let e : c.from_residual.result ≡ Err c.in_err-admit.field-0.0 = search rules in
    e ∙ turned_back _ _ _ _ c.admit.ensures c.in_err-admit.was

pub returns-in-Ok : goal.returns-in-Ok
returns-in-Ok c = at_stamp _ _ _ _ c.admit.ensures c.in_ok-admit.was (checks _ _ _ _ c.check.ensures) c.in-Ok.is c.bar.ensures

pub returns-in-Err : goal.returns-in-Err
returns-in-Err c = at_record _ _ _ _ c.admit.ensures c.in_ok-admit.was (checks _ _ _ _ c.check.ensures) c.in-Err.is
