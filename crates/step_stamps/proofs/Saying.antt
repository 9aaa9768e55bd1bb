-- What a stamp's answer says determines it, and so does what checking one says. Assumes nothing.
use Prim.Native.Nat.{ℕ}
use mathlib.Core.Bool.{Bool, true, false}
use mathlib.Core.Path.{◌≡◌, refl, sym, ◌∙◌, ap}
use mathlib.Core.List.{List}
use lib.Dec.{eqb}
use lib.ListN.{get_or}
use Rattle.std.specs.Prelude.{Result, Ok, Err}
use Rattle.answers.specs.Classes.{Class}
use Rattle.answers.specs.Classes.Class.{performed, refusal, stepping}
use Rattle.answers.specs.Answers.{Said}
use Rattle.answers.specs.declared.Refusal.{Refusal}
use Rattle.step_stamps.specs.Stamping.{says_stamping, says_checked}
use Rattle.step_stamps.specs.declared.SaveStamp.{SaveStamp}

-- the answer again, from its class and its values; no step answer is one
stamping_of : Class → List ℕ → Result SaveStamp Refusal
stamping_of performed v = Ok (record { domain = get_or v 0 0; revision = get_or v 1 0; replacements = get_or v 2 0 })
stamping_of (refusal w) v = Err w
stamping_of (stepping s) v = Ok (record { domain = 0; revision = 0; replacements = 0 })

stamping_back : (a : Result SaveStamp Refusal) → stamping_of (says_stamping a).class (says_stamping a).values ≡ a
unfolding stamping_of
stamping_back (Ok s) = refl
stamping_back (Err w) = refl

pub stamping_one : (a b : Result SaveStamp Refusal) → says_stamping a ≡ says_stamping b → a ≡ b
stamping_one a b e = sym (stamping_back a) ∙ ap (λ (s : Said). stamping_of s.class s.values) e ∙ stamping_back b

checked_of : Class → List ℕ → Result Bool Refusal
checked_of performed v = Ok (eqb (get_or v 0 0) 1)
checked_of (refusal w) v = Err w
checked_of (stepping s) v = Ok false

checked_back : (a : Result Bool Refusal) → checked_of (says_checked a).class (says_checked a).values ≡ a
unfolding checked_of
checked_back (Ok true) = refl
checked_back (Ok false) = refl
checked_back (Err w) = refl

pub checked_one : (a b : Result Bool Refusal) → says_checked a ≡ says_checked b → a ≡ b
checked_one a b e = sym (checked_back a) ∙ ap (λ (s : Said). checked_of s.class s.values) e ∙ checked_back b
