-- What the transaction's check of a stamp tells the tail table: one law for each of its answers, of the table's refusals and of one that is
-- put behind them. Assumes nothing.
use Prim.Native.Nat.{ℕ}
use mathlib.Core.Path.{◌≡◌, refl, sym, ◌∙◌, ap}
use mathlib.Core.Bool.{Bool, true, false, not}
use mathlib.Core.List.{[], ◌∷◌}
use Rattle.std.specs.Prelude.{Result, Ok, Err}
use Rattle.choice.specs.Pick.{pick, ◌or◌}
use Rattle.record.specs.Answers.{told}
use Rattle.record.specs.declared.Record.{Record}
use Rattle.wholeness.specs.Whole.{whole}
use Rattle.step_stamps.specs.Stamping.{says_checked, passes}
use Rattle.step_stamps.specs.declared.SaveStamp.{SaveStamp}
use Rattle.calls.specs.Lending.{leaves_of}
use Rattle.calls.specs.Lending.Lending.{check}
use Rattle.answers.specs.declared.Refusal.{Refusal}
use Rattle.answers.specs.declared.Refusal.TheVariants as why
use Rattle.bars.specs.Bars.{◌whenever◌, verdict, barred}
use Rattle.tail_answers.specs.TailAnswers.{Verdict}
use Rattle.tail_answers.specs.declared.TailRefusal.TheVariants.{BadArea, Damaged, Unstamped}
use Rattle.tail_table.proofs.Claims.{checks}

-- the check's answer: 7 of a record that is not whole, and else whether the stamp passes
abbrev checked : Bool → Bool → Result Bool Refusal
checked w p = pick (not w) (Err why.Damaged) (Ok p)

-- the refusals by the table's size and its records, and these with the stamp's: its record is whole, and it passes
abbrev tabled : Bool → Bool → Verdict
tabled a u = verdict (BadArea whenever a ∷ Damaged whenever u ∷ [])

abbrev stamped : Bool → Bool → Bool → Bool → Verdict
stamped a u w p = verdict (BadArea whenever a ∷ Damaged whenever (u or not w) ∷ Unstamped whenever not p ∷ [])

passing : (a u w p : Bool) → Ok true ≡ checked w p → tabled a u ≡ stamped a u w p
unfolding pick ◌or◌
passing true u true true e = refl
passing false true true true e = refl
passing false false true true e = refl
passing a u true false e = cc
passing a u false p e = cc

failing : (a u w p : Bool) → Ok false ≡ checked w p → barred (tabled a u) true Unstamped ≡ stamped a u w p
unfolding pick ◌or◌
failing true u true false e = refl
failing false true true false e = refl
failing false false true false e = refl
failing a u true true e = cc
failing a u false p e = cc

refusing : (a u w p : Bool) {y : Refusal} → Err y ≡ checked w p → barred (tabled a u) true Damaged ≡ stamped a u w p
unfolding pick ◌or◌
refusing true u false p e = refl
refusing false true false p e = refl
refusing false false false p e = refl
refusing a u true p e = cc

-- so each answer k of the check makes the refusals of the table, v, those of the table and the stamp
module _ {r : Record} {k : Result Bool Refusal} {v : Verdict} (domain : ℕ) (stamp : SaveStamp) (a u : Bool)
    (e : told (says_checked k) r ≡ (leaves_of r (check domain stamp)).told) (p : v ≡ tabled a u) where
  pub passed : k ≡ Ok true → v ≡ stamped a u (whole r) (passes r domain stamp)
  passed h = p ∙ passing a u (whole r) (passes r domain stamp) (sym h ∙ checks r domain stamp k e)

  pub failed : {w : Verdict} → k ≡ Ok false → w ≡ barred v true Unstamped → w ≡ stamped a u (whole r) (passes r domain stamp)
  failed h q = q ∙ ap (λ (x : Verdict). barred x true Unstamped) p ∙ failing a u (whole r) (passes r domain stamp) (sym h ∙ checks r domain stamp k e)

  pub turned_away_lem : {w : Verdict} {y : Refusal} → k ≡ Err y → w ≡ barred v true Damaged → w ≡ stamped a u (whole r) (passes r domain stamp)
  turned_away_lem h q = q ∙ ap (λ (x : Verdict). barred x true Damaged) p ∙ refusing a u (whole r) (passes r domain stamp) (sym h ∙ checks r domain stamp k e)
