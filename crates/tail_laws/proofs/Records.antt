-- Records with one more, with one less, and with another offset: they are in order still, and what stands among them. Assumes nothing.
use Prim.Native.Nat.{ℕ}
use mathlib.Core.Path.{◌≡◌, refl, sym, ◌∙◌, ap, subst}
use mathlib.Core.Bool.{Bool, true, false}
use mathlib.Core.List.{List, [], ◌∷◌}
use Rattle.choice.specs.Pick.{pick, ◌or◌}
use Rattle.choice.proofs.Picks.{picked}
use Rattle.choice.proofs.Tests.{both, either, neither, join, test, never}
use Rattle.tail_table.specs.Table.{file_of, same, before, leads, ascending, stands, saved_of, entered, without, with_offset, moved_to}
use Rattle.tail_table.specs.declared.Tail.{Tail}
use Rattle.tail_table.specs.declared.File.{File}
use Rattle.tail_sweeps.proofs.Order.{in_second, one_or_other, on_and_on, same_one, same_itself, same_not_before, first_before}

-- a pair that is the same as one is another than whatever that one is another than
other_too : (u f g : File) → same u f ≡ true → same f g ≡ false → same u g ≡ false
other_too u f g e o = subst (λ (x : File). same x g ≡ false) (sym (same_one u f e)) o

-- one more: the order is kept where its pair was not there, and nothing else comes or goes
leads_entered : (u t : Tail) (us : List Tail) → before (file_of u) (file_of t) ≡ true → leads u us ≡ true → leads u (entered t us) ≡ true
leads_entered u t [] b l = b
leads_entered u t (v ∷ vs) b l = picked (λ (x : List Tail). leads u x ≡ true) (before (file_of v) (file_of t)) (λ e. l) (λ e. b)

pub entered_order : (t : Tail) (us : List Tail) → ascending us ≡ true → stands us (file_of t) ≡ false → ascending (entered t us) ≡ true
entered_order t [] a s = join refl refl
entered_order t (u ∷ us) a s =
    picked (λ (x : List Tail). ascending x ≡ true) (before (file_of u) (file_of t))
    (λ e. join (leads_entered u t us e (both a).0) (entered_order t us (both a).1 (neither s).1))
    (λ e. join (one_or_other (file_of u) (file_of t) e (neither s).0) a)

entered_met : (b x y m : Bool) (t u : Tail) (es us : List Tail) (g : File) → stands es g ≡ x or m → same (file_of t) g ≡ x → same (file_of u) g ≡ y → stands us g ≡ m → stands (pick b (u ∷ es) (t ∷ u ∷ us)) g ≡ x or (y or m)
unfolding pick ◌or◌
entered_met true true y m t u es us g e p q r = simp (q, e) (in_second y refl)
entered_met true false y m t u es us g e p q r = simp (q, e)
entered_met false x y m t u es us g e p q r = simp (p, q, r)

pub entered_stands : (t : Tail) (us : List Tail) (g : File) → stands (entered t us) g ≡ same (file_of t) g or stands us g
entered_stands t [] g = refl
entered_stands t (u ∷ us) g = entered_met (before (file_of u) (file_of t)) (same (file_of t) g) (same (file_of u) g) (stands us g) t u (entered t us) us g (entered_stands t us g) refl refl refl

pub entered_other : (t : Tail) (us : List Tail) (g : File) → same (file_of t) g ≡ false → saved_of (entered t us) g ≡ saved_of us g
unfolding pick
entered_other t [] g o = simp o
entered_other t (u ∷ us) g o =
    picked (λ (x : List Tail). saved_of x g ≡ saved_of (u ∷ us) g) (before (file_of u) (file_of t))
    (λ e. ap (pick (same (file_of u) g) u.offset) (entered_other t us g o))
    (λ e. simp o)

pub entered_saved : (t : Tail) (us : List Tail) → stands us (file_of t) ≡ false → saved_of (entered t us) (file_of t) ≡ t.offset
unfolding pick
entered_saved t [] s = simp (same_itself (file_of t))
entered_saved t (u ∷ us) s =
    picked (λ (x : List Tail). saved_of x (file_of t) ≡ t.offset) (before (file_of u) (file_of t))
    (λ e. let n = (neither s).0 in simp n (entered_saved t us (neither s).1))
    (λ e. simp (same_itself (file_of t)))

-- one less: the order is kept, its pair is gone, and nothing else comes or goes
leads_on : (u v : Tail) (vs : List Tail) → before (file_of u) (file_of v) ≡ true → leads v vs ≡ true → leads u vs ≡ true
leads_on u v [] b l = refl
leads_on u v (w ∷ ws) b l = on_and_on (file_of u) (file_of v) (file_of w) b l

leads_without : (u : Tail) (us : List Tail) (f : File) → ascending (u ∷ us) ≡ true → leads u (without f us) ≡ true
leads_without u [] f a = refl
leads_without u (v ∷ vs) f a = picked (λ (x : List Tail). leads u x ≡ true) (same (file_of v) f) (λ e. leads_on u v vs (both a).0 (both (both a).1).0) (λ e. (both a).0)

pub without_order : (f : File) (us : List Tail) → ascending us ≡ true → ascending (without f us) ≡ true
without_order f [] a = refl
without_order f (u ∷ us) a =
    picked (λ (x : List Tail). ascending x ≡ true) (same (file_of u) f)
    (λ e. (both a).1)
    (λ e. join (leads_without u us f a) (without_order f us (both a).1))

pub without_gone : (f : File) (us : List Tail) → ascending us ≡ true → stands (without f us) f ≡ false
unfolding ◌or◌
without_gone f [] a = refl
without_gone f (u ∷ us) a =
    picked (λ (x : List Tail). stands x f ≡ false) (same (file_of u) f)
    (λ e. test (stands us f) (λ m. never (sym (first_before u us f a m) ∙ same_not_before (file_of u) f e)) (λ m. m))
    (λ e. simp e (without_gone f us (both a).1))

module _ (f g : File) (o : same f g ≡ false) where
  pub without_stands : (us : List Tail) → stands (without f us) g ≡ stands us g
  unfolding ◌or◌
  without_stands [] = refl
  without_stands (u ∷ us) =
      picked (λ (x : List Tail). stands x g ≡ stands (u ∷ us) g) (same (file_of u) f)
      (λ e. let n = other_too (file_of u) f g e o in simp n)
      (λ e. ap (λ (b : Bool). same (file_of u) g or b) (without_stands us))

  pub without_other : (us : List Tail) → saved_of (without f us) g ≡ saved_of us g
  unfolding pick
  without_other [] = refl
  without_other (u ∷ us) =
      picked (λ (x : List Tail). saved_of x g ≡ saved_of (u ∷ us) g) (same (file_of u) f)
      (λ e. let n = other_too (file_of u) f g e o in simp n)
      (λ e. ap (pick (same (file_of u) g) u.offset) (without_other us))

  pub moved_other : (offset : ℕ) (us : List Tail) → saved_of (moved_to offset f us) g ≡ saved_of us g
  unfolding pick
  moved_other offset [] = refl
  moved_other offset (u ∷ us) =
      picked (λ (x : List Tail). saved_of x g ≡ saved_of (u ∷ us) g) (same (file_of u) f)
      (λ e. let n = other_too (file_of u) f g e o in simp n)
      (λ e. ap (pick (same (file_of u) g) u.offset) (moved_other offset us))

-- another offset: the order is kept, nothing comes or goes, and it is the pair's
module _ (offset : ℕ) (f : File) where
  leads_moved : (u : Tail) (us : List Tail) → leads u (moved_to offset f us) ≡ leads u us
  leads_moved u [] = refl
  leads_moved u (v ∷ vs) = picked (λ (x : List Tail). leads u x ≡ before (file_of u) (file_of v)) (same (file_of v) f) (λ e. refl) (λ e. refl)

  leads_as : (u : Tail) (us : List Tail) → leads (with_offset offset u) us ≡ leads u us
  leads_as u [] = refl
  leads_as u (v ∷ vs) = refl

  pub moved_order : (us : List Tail) → ascending us ≡ true → ascending (moved_to offset f us) ≡ true
  moved_order [] a = refl
  moved_order (u ∷ us) a =
      picked (λ (x : List Tail). ascending x ≡ true) (same (file_of u) f)
      (λ e. join (leads_as u us ∙ (both a).0) (both a).1)
      (λ e. join (leads_moved u us ∙ (both a).0) (moved_order us (both a).1))

  pub moved_stands : (us : List Tail) (g : File) → stands (moved_to offset f us) g ≡ stands us g
  moved_stands [] g = refl
  moved_stands (u ∷ us) g =
      picked (λ (x : List Tail). stands x g ≡ stands (u ∷ us) g) (same (file_of u) f)
      (λ e. refl)
      (λ e. ap (λ (b : Bool). same (file_of u) g or b) (moved_stands us g))

  pub moved_saved : (us : List Tail) → stands us f ≡ true → saved_of (moved_to offset f us) f ≡ offset
  unfolding pick ◌or◌
  moved_saved [] s = never (sym s)
  moved_saved (u ∷ us) s =
      picked (λ (x : List Tail). saved_of x f ≡ offset) (same (file_of u) f)
      (λ e. simp e)
      (λ e. simp e (moved_saved us (either s (λ p. never (sym p ∙ e)) (λ p. p))))
