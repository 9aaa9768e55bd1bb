-- Document 01, of refusals: "each given exactly when its line or step says". For the opening and every call on a
-- record: the answer of number n is given exactly by its row, exactly one row is given, and no other number is answered. Assumes nothing.
use Prim.Native.Nat.{ℕ}
use mathlib.Core.Path.{◌≡◌, refl, ap}
use mathlib.Core.Bool.{Bool, true, false, not}
use mathlib.Core.List.{[], ◌∷◌}
use lib.Dec.{eqb}
use Rattle.choice.specs.Pick.{pick}
use Rattle.choice.proofs.Tests.{never}
use Rattle.answers.specs.Classes.{number_of, refused}
use Rattle.answers.specs.Answers.{Said}
use Rattle.record.specs.declared.Record.{Record}
use Rattle.wholeness.specs.Whole.{whole}
use Rattle.step_stamps.specs.Stamping.{passes, check_step}
use Rattle.step_stamps.specs.declared.SaveStamp.{SaveStamp}
use Rattle.calls.specs.Calls.{step_with, AnyCall, step_of}
use Rattle.calls.specs.Calls.Call.{check}
use Rattle.demand_refusals.specs.Rows.{given, among, how_many}
use Rattle.demand_refusals.specs.Refusals.{returned, rows, numbers_of}
use Rattle.demand_refusals.proofs.OneRow.{one_given, one_listed}
use Rattle.demand_refusals.proofs.Refusals.{spoken}

says_second : (a b : Bool) (x y z : Said) → a ≡ false → (pick a x (pick b y z)).values ≡ pick b y.values z.values
unfolding pick
says_second true b x y z h = never h
says_second false true x y z h = refl
says_second false false x y z h = refl

module _ (sized sound : Bool) (r : Record) where
  module _ (c : AnyCall) where
    -- an answer is given exactly when its row says
    pub exact-refusals : (n : ℕ) → eqb (step_of sized sound r c).number n ≡ given (rows sized sound r c) n
    exact-refusals = (spoken sized sound r c).0.exact

    -- the rows are complete and disjoint: exactly one is given
    pub one_answer : how_many (given (rows sized sound r c)) (numbers_of c) ≡ 1
    one_answer = let s = spoken sized sound r c in one_given (rows sized sound r c) s.1 s.0

    -- the answer is one of document 01's list
    pub listed_answer : among (step_of sized sound r c).number (numbers_of c) ≡ true
    listed_answer = let s = spoken sized sound r c in one_listed (rows sized sound r c) s.1 s.0

    -- its number is that of its class
    pub named-answer : (step_of sized sound r c).number ≡ number_of (step_of sized sound r c).class
    named-answer = (spoken sized sound r c).0.named

    -- a refusal returns the record that was given
    pub refusal-returns : refused (step_of sized sound r c).class ≡ true → (step_of sized sound r c).state ≡ returned r c
    refusal-returns = (spoken sized sound r c).0.kept

  -- "checking a stamp answers yes, no or 7": of a whole record yes, 1, exactly where the stamp passes, and else no, 0
  pub check_says : (domain : ℕ) (stamp : SaveStamp) → whole r ≡ true
      → (step_with sized sound r (check domain stamp)).values ≡ pick (passes r domain stamp) (1 ∷ []) (0 ∷ [])
  unfolding check_step
  check_says domain stamp h = says_second (not (whole r)) (passes r domain stamp) _ _ _ (ap not h)
