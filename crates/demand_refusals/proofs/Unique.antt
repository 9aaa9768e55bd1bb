-- Every promise is an equation, and each determines what its function answers and leaves. Assumes nothing.
use Prim.Native.Nat.{ℕ}
use mathlib.Core.Path.{◌≡◌, sym, ◌∙◌, ap}
use mathlib.Core.List.{List, ◌∷◌}
use Rattle.std.specs.Prelude.{Bool, Result}
use Rattle.answers.specs.Answers.{Said}
use Rattle.answers.specs.declared.Refusal.{Refusal}
use Rattle.record.specs.Answers.{Told, told, said_of, tells}
use Rattle.record.specs.Leaves.{Leaves, leaves}
use Rattle.record.specs.declared.Record.{Record}
use Rattle.record.specs.declared.Stepped.{Stepped}
use Rattle.record.proofs.Telling.{tells_one}
use Rattle.step_stamps.specs.Stamping.{says_stamping, says_checked}
use Rattle.step_stamps.specs.declared.SaveStamp.{SaveStamp}
use Rattle.step_stamps.proofs.Saying.{stamping_one, checked_one}
use Rattle.status.specs.Status.{Marks, leaves_marks, says_marked}
use Rattle.status.proofs.Marking.{marked_one}

-- a promise of the form x ≡ d
pub one : {A : Type 0} {d x y : A} → x ≡ d → y ≡ d → x ≡ y
one p q = p ∙ sym q

-- of the form tells s ≡ d: the asks, and every step on the record alone
pub one_told : (d : Told) (s t : Stepped) → tells s ≡ d → tells t ≡ d → s ≡ t
one_told d s t p q = tells_one s t (one p q)

-- of the form leaves (tells s) l ≡ d: every call that is lent something
pub one_left : (d : Leaves) (s t : Stepped) (l m : List (List ℕ)) → leaves (tells s) l ≡ d → leaves (tells t) m ≡ d → (s ≡ t) × (l ≡ m)
one_left d s t l m p q =
    let e = one p q in
    (tells_one s t (ap (λ (x : Leaves). x.told) e), ap (λ (x : Leaves). x.lent) e)

-- each list of an equal row of lists is equal
pub one_row : {a b : List ℕ} {l m : List (List ℕ)} → a ∷ l ≡ b ∷ m → (a ≡ b) × (l ≡ m)
one_row e = (cc, cc)

-- of the forms saysStamping a ≡ d and saysChecked a ≡ d
pub one_stamping : (d : Said) (a b : Result SaveStamp Refusal) → says_stamping a ≡ d → says_stamping b ≡ d → a ≡ b
one_stamping d a b p q = stamping_one a b (one p q)

pub one_checked : (d : Said) (a b : Result Bool Refusal) → says_checked a ≡ d → says_checked b ≡ d → a ≡ b
one_checked d a b p q = checked_one a b (one p q)

-- of the forms told (saysStamping a) r ≡ d and told (saysChecked a) r ≡ d
pub one_stamped : (r : Record) (d : Told) (a b : Result SaveStamp Refusal) → told (says_stamping a) r ≡ d → told (says_stamping b) r ≡ d → a ≡ b
one_stamped r d a b p q = stamping_one a b (ap said_of (one p q))

pub one_checking : (r : Record) (d : Told) (a b : Result Bool Refusal) → told (says_checked a) r ≡ d → told (says_checked b) r ≡ d → a ≡ b
one_checking r d a b p q = checked_one a b (ap said_of (one p q))

-- of the form leaves_marks (says_marked m) bytes ≡ d: the status calls
pub one_marked : (d : Marks) (a b : Result (Unit {0}) Refusal) (l m : List ℕ) → leaves_marks (says_marked a) l ≡ d → leaves_marks (says_marked b) m ≡ d → (a ≡ b) × (l ≡ m)
one_marked d a b l m p q =
    let e = one p q in
    (marked_one a b (ap (λ (x : Marks). x.said) e), ap (λ (x : Marks). x.status) e)
