-- What the transaction's check of a stamp tells the tail table: one law for each of its answers. Assumes nothing.
use Prim.Native.Nat.{ℕ}
use mathlib.Core.Path.{◌≡◌, refl, sym, ◌∙◌, ap}
use mathlib.Core.Bool.{Bool, true, false, not}
use mathlib.Core.List.{[], ◌∷◌}
use Rattle.std.specs.Prelude.{Result, Ok, Err}
use Rattle.choice.specs.Pick.{pick, ◌or◌}
use Rattle.record.specs.Answers.{told, said_of}
use Rattle.record.specs.declared.Record.{Record}
use Rattle.wholeness.specs.Whole.{whole}
use Rattle.step_stamps.specs.Stamping.{says_checked, passes, check_step}
use Rattle.step_stamps.specs.declared.SaveStamp.{SaveStamp}
use Rattle.step_stamps.proofs.Saying.{checked_one}
use Rattle.calls.specs.Lending.{leaves_of}
use Rattle.calls.specs.Lending.Lending.{check}
use Rattle.answers.specs.declared.Refusal.{Refusal}
use Rattle.answers.specs.declared.Refusal.TheVariants as why
use Rattle.bars.specs.Bars.{◌whenever◌, verdict}
use Rattle.bars.proofs.Verdicts.{in_turn}
use Rattle.tail_answers.specs.TailAnswers.{Verdict}
use Rattle.tail_answers.specs.declared.TailRefusal.{TailRefusal}
use Rattle.tail_answers.specs.declared.TailRefusal.TheVariants.{BadArea, Damaged, Unstamped}

-- the check's answer: 7 of a record that is not whole, and else whether the stamp passes
abbrev checked : Bool → Bool → Result Bool Refusal
checked w p = pick (not w) (Err why.Damaged) (Ok p)

said : (w p : Bool) → pick (not w) (says_checked (Err why.Damaged)) (pick p (says_checked (Ok true)) (says_checked (Ok false))) ≡ says_checked (checked w p)
unfolding pick
said true true = refl
said true false = refl
said false p = refl

pub checks : (r : Record) (domain : ℕ) (stamp : SaveStamp) (k : Result Bool Refusal) → told (says_checked k) r ≡ (leaves_of r (check domain stamp)).told → k ≡ checked (whole r) (passes r domain stamp)
unfolding check_step
checks r domain stamp k e = checked_one k (checked (whole r) (passes r domain stamp)) (ap said_of e ∙ said (whole r) (passes r domain stamp))

-- the refusals by the table's size and its records, those by the claim, and both in their order
abbrev tabled : Bool → Bool → Verdict
tabled a u = verdict (BadArea whenever a ∷ Damaged whenever u ∷ [])

abbrev claimed : Bool → Bool → Verdict
claimed w p = pick (not w) (Err Damaged) (verdict (Unstamped whenever not p ∷ []))

abbrev stamped : Bool → Bool → Bool → Bool → Verdict
stamped a u w p = verdict (BadArea whenever a ∷ Damaged whenever (u or not w) ∷ Unstamped whenever not p ∷ [])

joined : (a u w p : Bool) → in_turn (tabled a u) (claimed w p) ≡ stamped a u w p
unfolding pick ◌or◌
joined true u w p = refl
joined false true w p = refl
joined false false true p = refl
joined false false false p = refl

at_passing : (w p : Bool) {b : Bool} → Ok b ≡ checked w p → verdict (Unstamped whenever not b ∷ []) ≡ claimed w p
unfolding pick
at_passing true p {b} e = let h : b ≡ p = cc in simp h
at_passing false p e = cc

at_damage : (w p : Bool) {y : Refusal} → Err y ≡ checked w p → Err Damaged ≡ claimed w p
unfolding pick
at_damage true p e = cc
at_damage false p e = refl

-- so the table's refusals v, and behind them each answer k of the check, make those of both
module _ {v : Verdict} (a u w p : Bool) (q : v ≡ tabled a u) where
  pub turned_back : {y : TailRefusal} → v ≡ Err y → Err y ≡ stamped a u w p
  turned_back h = ap (λ (x : Verdict). in_turn x (claimed w p)) (sym h ∙ q) ∙ joined a u w p

  module _ (h : v ≡ Ok tt) {k : Result Bool Refusal} (e : k ≡ checked w p) where
    let_on : {z : Verdict} → z ≡ claimed w p → z ≡ stamped a u w p
    let_on f = f ∙ ap (λ (x : Verdict). in_turn x (claimed w p)) (sym h ∙ q) ∙ joined a u w p

    pub at_stamp : {b : Bool} {z : Verdict} → k ≡ Ok b → z ≡ verdict (Unstamped whenever not b ∷ []) → z ≡ stamped a u w p
    at_stamp i f = let_on (f ∙ at_passing w p (sym i ∙ e))

    pub at_record : {y : Refusal} → k ≡ Err y → Err Damaged ≡ stamped a u w p
    at_record i = let_on (at_damage w p (sym i ∙ e))
