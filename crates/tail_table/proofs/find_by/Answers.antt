-- `tail_table::find_by` meets its contract. Assumes nothing.
use Rattle.std.proofs.Common.{◌≡◌, Ok, refl, sym, ◌∙◌, ap}
use borrow.Author.Tests.{lt-ltb, le-ltb}
use Rattle.choice.proofs.Picks.{yes, no}
use Rattle.tail_answers.specs.TailAnswers.{Verdict}
use Rattle.tail_answers.specs.declared.Finding.{Finding}
use Rattle.tail_table.specs.TailCalls.{found}
use Rattle.tail_table.proofs.find_by.Goals as goal

-- a verdict v, which is the definition's d, was found to let through
let_in : {v d : Verdict} {z own : Finding} → v ≡ d → v ≡ Ok tt → z ≡ own → Ok z ≡ found d own
let_in {own = own} e h p = ap Ok p ∙ ap (λ (x : Verdict). found x own) (sym h ∙ e)

pub returns-then-not-s : goal.returns-then-not-s
returns-then-not-s c = let_in c.admit_claim.ensures c.in_ok-admit_claim.was (yes _ c.if-not-s.true refl)

pub returns-then-size-s : goal.returns-then-size-s
returns-then-size-s c = let_in c.admit_claim.ensures c.in_ok-admit_claim.was (no _ c.if-not-s.false (yes _ (lt-ltb _ _ c.if-size-s.true) refl))

pub returns : goal.returns
returns c = let_in c.admit_claim.ensures c.in_ok-admit_claim.was (no _ c.if-not-s.false (no _ (le-ltb _ _ c.if-size-s.false) refl))
