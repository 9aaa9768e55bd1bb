-- What a row of bars lets through, for refusals of any kind: one more bar behind what was found, and what an open row says. Assumes nothing.
use mathlib.Core.Path.{◌≡◌, refl, sym, ◌∙◌, ap}
use mathlib.Core.Bool.{Bool, true, false, ◌||◌}
use mathlib.Core.List.{List, [], ◌∷◌}
use Rattle.std.specs.Prelude.{Result, Ok, Err}
use Rattle.choice.specs.Pick.{pick, ◌or◌}
use Rattle.choice.proofs.Tests.{test}
use Rattle.bars.specs.Bars.{Bar, barred, through}

module _ {E : Type 0} where
  -- what was found so far, behind a refusal and behind none: with these two the check proves by itself what a row of `?` answers
  pub stopped : {found : Result (Unit {0}) E} {first : E} (t : Bool) (why : E) → found ≡ Err first → barred found t why ≡ Err first
  stopped t why e = ap (λ (x : Result (Unit {0}) E). barred x t why) e

  pub went_on : {found : Result (Unit {0}) E} {u : Unit {0}} (t : Bool) (why : E) → found ≡ Ok u → barred found t why ≡ pick t (Err why) (Ok tt)
  went_on t why e = ap (λ (x : Result (Unit {0}) E). barred x t why) e

  -- behind an open row no test holds
  abbrev pub Clear : List (Bar E) → Type 0
  Clear [] = true ≡ true
  Clear (b ∷ bs) = (b.test ≡ false) × Clear bs

  pub apart : {P : Type 0} {found : Result (Unit {0}) E} {why : E} → found ≡ Err why → found ≡ Ok tt → P
  apart e h = cc

  shut_stays : (bs : List (Bar E)) {why : E} → through (Err why) bs ≡ Err why
  shut_stays [] = refl
  shut_stays (b ∷ bs) = shut_stays bs

  at_test : (t : Bool) {b : Bool} (why : E) (bs : List (Bar E)) → b ≡ t → through (pick t (Err why) (Ok tt)) bs ≡ through (pick b (Err why) (Ok tt)) bs
  at_test t why bs e = ap (λ (x : Bool). through (pick x (Err why) (Ok tt)) bs) (sym e)

  pub clear : (d : Result (Unit {0}) E) (bs : List (Bar E)) → through d bs ≡ Ok tt → (d ≡ Ok tt) × Clear bs
  unfolding pick
  clear d [] h = (h, refl)
  clear (Err why) (b ∷ bs) h = apart (shut_stays bs) h
  clear (Ok u) (b ∷ bs) h =
      (refl, test b.test (λ t. apart (shut_stays bs) (at_test true b.why bs t ∙ h)) (λ t. (t, (clear (Ok tt) bs (at_test false b.why bs t ∙ h)).1)))

-- code's test of two is the definitions'
pub one_or_other : (a b : Bool) → (a || b) ≡ (a or b)
unfolding ◌or◌
one_or_other a b = refl

pub ruleset rows = (stopped, went_on, one_or_other)
