-- Refusals in a row, as bars has them (bars/specs/Bars.antt): more of them behind a gate, and one more, or two, behind a row of the tail
-- table's. Assumes nothing.
use mathlib.Core.Path.{◌≡◌, refl, ◌∙◌, ap}
use mathlib.Core.Bool.{Bool, true, false}
use mathlib.Core.List.{List, [], ◌∷◌, ◌++◌}
use Rattle.std.specs.Prelude.{Ok, Err}
use Rattle.choice.specs.Pick.{pick}
use Rattle.answers.specs.declared.Refusal.{Refusal}
use Rattle.bars.specs.Bars.{Bar, ◌whenever◌, verdict, barred, through}
use Rattle.gates.proofs.Passing.{Gate}
use Rattle.tail_answers.specs.TailAnswers.{Verdict}
use Rattle.tail_answers.specs.declared.TailRefusal.{TailRefusal}

-- a gate g, which is the definition's d, with more bars behind it
pub next_row : {g d g' : Gate} (bs : List (Bar Refusal)) → g' ≡ through g bs → g ≡ d → g' ≡ through d bs
next_row bs e p = e ∙ ap (λ (x : Gate). through x bs) p

-- a row with one more bar behind it is the longer row
behind : (b : Bool) (first : TailRefusal) (v w : Verdict) (t : Bool) (why : TailRefusal) → barred v t why ≡ w
    → barred (pick b (Err first) v) t why ≡ pick b (Err first) w
unfolding pick
behind true first v w t why e = refl
behind false first v w t why e = e

pub row_more : (bs : List (Bar TailRefusal)) (t : Bool) (why : TailRefusal) → barred (verdict bs) t why ≡ verdict (bs ++ (why whenever t ∷ []))
row_more [] t why = refl
row_more (b ∷ bs) t why = behind b.test b.why _ _ t why (row_more bs t why)

-- two bars behind a verdict v that is a row's; and two alone
pub two_more : {v w : Verdict} (bs : List (Bar TailRefusal)) (a b : Bool) (y z : TailRefusal) → v ≡ barred (verdict bs) a y → w ≡ barred v b z
    → w ≡ verdict ((bs ++ (y whenever a ∷ [])) ++ (z whenever b ∷ []))
two_more bs a b y z e f = f ∙ ap (λ (x : Verdict). barred x b z) (e ∙ row_more bs a y) ∙ row_more (bs ++ (y whenever a ∷ [])) b z

pub two_alone : {v w : Verdict} (a b : Bool) (y z : TailRefusal) → v ≡ barred (Ok tt) a y → w ≡ barred v b z → w ≡ verdict (y whenever a ∷ z whenever b ∷ [])
two_alone a b y z e f = two_more [] a b y z e f
