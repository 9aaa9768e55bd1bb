-- Number and values of what a call of the tail table answers determine the answer; and none of its refusals has the number that request 1
-- retired. Assumes nothing.
use Prim.Native.Nat.{ℕ}
use mathlib.Core.Path.{◌≡◌, refl, sym, ◌∙◌, ap}
use mathlib.Core.List.{List, [], ◌∷◌}
use mathlib.Core.Logic.{◌≢◌}
use native.Mathlib.Omega.{arith}
use lib.Dec.{eqb}
use lib.ListN.{get_or}
use Rattle.std.specs.Prelude.{Result, Ok, Err}
use Rattle.choice.specs.Pick.{pick}
use Rattle.tail_answers.specs.TailAnswers.{Verdict, TailSaid, tail_number, says_verdict, says_finding}
use Rattle.tail_answers.specs.declared.TailRefusal.{TailRefusal}
use Rattle.tail_answers.specs.declared.TailRefusal.TheVariants.{BadArea, Damaged, Full, Present, Backward, Absent, Unstamped}
use Rattle.tail_answers.specs.declared.Finding.{Finding}
use Rattle.tail_answers.specs.declared.Finding.TheVariants as F

-- the refusal again, from its number
refusal_at : ℕ → TailRefusal
refusal_at n =
    pick (eqb n (tail_number BadArea)) BadArea (pick (eqb n (tail_number Damaged)) Damaged
    (pick (eqb n 31) Full (pick (eqb n 32) Present (pick (eqb n 33) Backward (pick (eqb n 34) Absent Unstamped)))))

refusal_back : (w : TailRefusal) → refusal_at (tail_number w) ≡ w
unfolding pick refusal_at
refusal_back BadArea = refl
refusal_back Damaged = refl
refusal_back Full = refl
refusal_back Present = refl
refusal_back Backward = refl
refusal_back Absent = refl
refusal_back Unstamped = refl

-- and so a verdict, and a finding
verdict_at : TailSaid → Verdict
verdict_at s = pick (eqb s.number 0) (Ok tt) (Err (refusal_at s.number))

verdict_back : (v : Verdict) → verdict_at (says_verdict v) ≡ v
unfolding pick verdict_at
verdict_back (Ok u) = refl
verdict_back (Err w) = not_done w (Err (refusal_at (tail_number w))) ∙ ap Err (refusal_back w)
  where
    not_done : (w : TailRefusal) (v : Verdict) → pick (eqb (tail_number w) 0) (Ok tt) v ≡ v
    not_done BadArea v = refl
    not_done Damaged v = refl
    not_done Full v = refl
    not_done Present v = refl
    not_done Backward v = refl
    not_done Absent v = refl
    not_done Unstamped v = refl

pub verdict_one : (v w : Verdict) → says_verdict v ≡ says_verdict w → v ≡ w
verdict_one v w e = sym (verdict_back v) ∙ ap verdict_at e ∙ verdict_back w

found : ℕ → List ℕ → Result Finding TailRefusal
found n [] = Err (refusal_at n)
found n (k ∷ vs) = Ok (pick (eqb k 0) (F.Same (get_or vs 0 0)) (pick (eqb k 1) F.Shrunk F.Unknown))

finding_back : (x : Result Finding TailRefusal) → found (says_finding x).number (says_finding x).values ≡ x
unfolding pick found
finding_back (Ok (F.Same offset)) = refl
finding_back (Ok F.Shrunk) = refl
finding_back (Ok F.Unknown) = refl
finding_back (Err w) = ap Err (refusal_back w)

pub finding_one : (x y : Result Finding TailRefusal) → says_finding x ≡ says_finding y → x ≡ y
finding_one x y e = sym (finding_back x) ∙ ap (λ (s : TailSaid). found s.number s.values) e ∙ finding_back y

-- "Number 8 is retired and never given"
pub tail_never_retired : (w : TailRefusal) → tail_number w ≢ 8
tail_never_retired BadArea = omega arith
tail_never_retired Damaged = omega arith
tail_never_retired Full = omega arith
tail_never_retired Present = omega arith
tail_never_retired Backward = omega arith
tail_never_retired Absent = omega arith
tail_never_retired Unstamped = omega arith
