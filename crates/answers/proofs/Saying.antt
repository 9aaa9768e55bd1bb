-- What an answer says determines it. Assumes nothing.
use Prim.Native.Nat.{ℕ}
use mathlib.Core.Path.{◌≡◌, refl, sym, ◌∙◌, ap}
use mathlib.Core.List.{List, [], ◌∷◌}
use lib.ListN.{get_or}
use Rattle.answers.specs.Classes.{Class}
use Rattle.answers.specs.Classes.Class.{performed, refusal, stepping}
use Rattle.answers.specs.Classes.StepAnswer.{ticket, waiting, failed, more, finished}
use Rattle.answers.specs.Answers.{values_of, Said, says}
use Rattle.answers.specs.declared.Answer.{Answer}
use Rattle.answers.specs.declared.Answer.TheVariants.{Done, Refused, Ticket, Waiting, Failed, More, Finished}
use Rattle.answers.specs.declared.Was.{Was}
use Rattle.answers.specs.declared.Was.TheVariants.{Nothing, One, Three}

was_of : List ℕ → Was
was_of [] = Nothing
was_of (a ∷ []) = One a
was_of (a ∷ b ∷ []) = Nothing
was_of (a ∷ b ∷ c ∷ vs) = Three a b c

was_back : (w : Was) → was_of (values_of w) ≡ w
unfolding was_of
was_back Nothing = refl
was_back (One a) = refl
was_back (Three a b c) = refl

-- the answer again, from its class and its values
answer_of : Class → List ℕ → Answer
answer_of performed v = Done (was_of v)
answer_of (refusal why) v = Refused why
answer_of (stepping ticket) v = Ticket (get_or v 0 0) (get_or v 1 0)
answer_of (stepping waiting) v = Waiting
answer_of (stepping failed) v = Failed (get_or v 0 0)
answer_of (stepping more) v = More
answer_of (stepping finished) v = Finished

back : (a : Answer) → answer_of (says a).class (says a).values ≡ a
unfolding answer_of
back (Done was) = ap Done (was_back was)
back (Refused why) = refl
back (Ticket n i) = refl
back Waiting = refl
back (Failed c) = refl
back More = refl
back Finished = refl

-- answers that say the same are the same
pub says_one : (a b : Answer) → says a ≡ says b → a ≡ b
says_one a b e = sym (back a) ∙ ap (λ (s : Said). answer_of s.class s.values) e ∙ back b
