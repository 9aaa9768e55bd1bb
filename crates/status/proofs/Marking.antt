-- That what a status call says determines its answer. Assumes nothing.
use mathlib.Core.Path.{◌≡◌, refl, sym, ◌∙◌, ap}
use Rattle.std.proofs.Common.{Result, Ok, Err}
use Rattle.answers.specs.Classes.{Class}
use Rattle.answers.specs.Classes.Class.{performed, refusal, stepping}
use Rattle.answers.specs.Answers.{Said}
use Rattle.answers.specs.declared.Refusal.{Refusal}
use Rattle.status.specs.Status.{says_marked}

-- the answer again, from its class; no step answer is one
marked_of : Class → Result (Unit {0}) Refusal
marked_of performed = Ok tt
marked_of (refusal why) = Err why
marked_of (stepping s) = Ok tt

back : (a : Result (Unit {0}) Refusal) → marked_of (says_marked a).class ≡ a
unfolding marked_of
back (Ok u) = refl
back (Err w) = refl

pub marked_one : (a b : Result (Unit {0}) Refusal) → says_marked a ≡ says_marked b → a ≡ b
marked_one a b e = sym (back a) ∙ ap (λ (s : Said). marked_of s.class) e ∙ back b
