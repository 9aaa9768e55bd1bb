-- `step_rollbacks::ask_rollback` meets its contract: a return for each test of the definition. Assumes nothing.
use mathlib.Core.Path.{◌≡◌, sym, ◌∙◌, ap}
use mathlib.Core.List.{[]}
use mathlib.Core.Bool.{Bool, true, false}
use Prim.Native.Nat.{◌+◌, ◌-◌}
use lib.Dec.{ltb, eqb}
use native.Mathlib.Omega.{arith}
use borrow.Author.Tests.{eq-eqb, ne_eqb, le-leb, lt-leb, lt-ltb}
use Rattle.choice.specs.Pick.{◌and◌}
use Rattle.choice.proofs.Picks.{yes, no}
use Rattle.choice.proofs.Tests.{never, tests}
use Rattle.record.specs.Fields.{top, with_ticket}
use Rattle.record.specs.Answers.{answer}
use Rattle.answers.specs.declared.Answer.TheVariants.{Finished}
use Rattle.tickets.specs.declared.Live.TheVariants.{None, Rollback}
use Rattle.gates.proofs.Passing.{barred_out, let_in}
use Rattle.issuing.specs.Issuing.{issued}
use Rattle.step_rollbacks.specs.Rollbacks.{ask_rollback_own, turned}
use Rattle.step_rollbacks.proofs.ask_rollback.Goals as goal

right : (a b : Bool) → a and b ≡ false → a ≡ true → b ≡ false
unfolding ◌and◌
right true b h e = h
right false b h e = never (sym e)

pub returns-in-Err : goal.returns-in-Err
returns-in-Err c = barred_out _ [] c.admit.ensures _ _ c.in-Err.is c.refuse.ensures

pub returns-then-r-ge-RECOVER_REMOVE : goal.returns-then-r-ge-RECOVER_REMOVE
unfolding ask_rollback_own
returns-then-r-ge-RECOVER_REMOVE c =
    let_in _ [] c.admit.ensures _ c.in_default.is (yes _ (le-leb _ _ c.if-r-ge-RECOVER_REMOVE.true) c.answering.ensures)

pub returns-then-r : goal.returns-then-r
unfolding ask_rollback_own ◌and◌
returns-then-r c =
    let_in _ [] c.admit.ensures _ c.in_default.is
    (no _ (lt-leb _ _ c.if-r-ge-RECOVER_REMOVE.false) (yes _ c.if-r.true c.refuse-then-r.ensures))

pub returns-then-r-eq0 : goal.returns-then-r-eq0
unfolding ask_rollback_own turned ◌and◌
returns-then-r-eq0 c =
    let r = c.args.r in
    let_in _ [] c.admit.ensures _ c.in_default.is
    (no _ (lt-leb _ _ c.if-r-ge-RECOVER_REMOVE.false) (no _ c.if-r.false (yes _ (eq-eqb _ _ c.if-r-eq0.true)
    (c.answering-then-r-eq0.ensures
    ∙ ap (answer Finished) (c.with_ticket.ensures ∙ ap (with_ticket r.serial None) c.turned.ensures)))))

pub overflow_add-number : goal.overflow_add-number
unfolding ◌and◌
overflow_add-number c =
    let r = c.args.r in
    omega (tests, right (ltb 0 r.attempted) (eqb r.serial top) c.if-r.false (lt-ltb 0 r.attempted (omega arith)))

pub returns : goal.returns
unfolding ask_rollback_own turned ◌and◌
returns c =
    let r = c.args.r in
    let_in _ [] c.admit.ensures _ c.in_default.is
    (no _ (lt-leb _ _ c.if-r-ge-RECOVER_REMOVE.false) (no _ c.if-r.false (no _ (ne_eqb _ _ c.if-r-eq0.false)
    (c.issue.ensures ∙ ap (issued (Rollback (r.serial + 1)) (r.attempted - 1)) c.turned-back.ensures))))
