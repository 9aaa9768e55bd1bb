-- One record more: what each thing that is known of records becomes, and so all of it where they are in order. Assumes nothing.
use Prim.Native.Nat.{ℕ, suc}
use mathlib.Core.Path.{◌≡◌, refl, sym, ◌∙◌, ap}
use mathlib.Core.Bool.{Bool, true, false, not}
use mathlib.Core.List.{List, [], ◌∷◌, ◌++◌}
use native.Mathlib.Omega.{arith}
use lib.Dec.{eqb}
use lib.ListN.{length}
use borrow.Author.Tests.{ne_eqb}
use Rattle.choice.specs.Pick.{pick, ◌and◌, ◌or◌}
use Rattle.choice.proofs.Picks.{each, no}
use Rattle.choice.proofs.Tests.{and_true, both}
use Rattle.tail_table.specs.Table.{file_of, same, before, ascending, stands, saved_of}
use Rattle.tail_table.specs.Sweeping.{spot_of, nobody, last_of, known, stepped}
use Rattle.tail_table.specs.declared.Tail.{Tail}
use Rattle.tail_table.specs.declared.File.{File}
use Rattle.tail_table.specs.declared.Sweep.{Sweep}

-- laws of tests
and_apart : (a b c : Bool) → a and (b and c) ≡ a and b and c
unfolding ◌and◌
and_apart true b c = refl
and_apart false b c = refl

or_apart : (a b c : Bool) → a or (b or c) ≡ a or b or c
unfolding ◌or◌
or_apart true b c = refl
or_apart false b c = refl

pub and_second : {b : Bool} → true and b ≡ false → b ≡ false
unfolding ◌and◌
and_second e = e

or_false : (a : Bool) → a ≡ a or false
unfolding ◌or◌
or_false true = refl
or_false false = refl

-- the last of the records and one more
last_more : (f : File) (ts : List Tail) (t : Tail) → file_of t ≡ last_of f (ts ++ (t ∷ []))
last_more f [] t = refl
last_more f (u ∷ us) t = last_more (file_of u) us t

-- how many they are
pub long : (ts : List Tail) (t : Tail) → suc (length ts) ≡ length (ts ++ (t ∷ []))
long [] t = refl
long (u ∷ us) t = ap suc (long us t)

-- whether they are in order: the first, or after the last
order_behind : (u : Tail) (us : List Tail) (t : Tail) → ascending (u ∷ us) and before (last_of (file_of u) us) (file_of t) ≡ ascending (u ∷ (us ++ (t ∷ [])))
unfolding ◌and◌
order_behind u [] t = and_true (before (file_of u) (file_of t))
order_behind u (v ∷ vs) t = sym (and_apart (before (file_of u) (file_of v)) (ascending (v ∷ vs)) _) ∙ ap (λ (b : Bool). before (file_of u) (file_of v) and b) (order_behind v vs t)

not_first : (n : ℕ) → eqb (suc n) 0 ≡ false
not_first n = ne_eqb (suc n) 0 (omega arith)

pub order_more : (ts : List Tail) (t : Tail) → ascending ts and (eqb (length ts) 0 or before (last_of nobody ts) (file_of t)) ≡ ascending (ts ++ (t ∷ []))
unfolding ◌and◌ ◌or◌
order_more [] t = refl
order_more (u ∷ us) t = ap (λ (b : Bool). ascending (u ∷ us) and (b or before (last_of (file_of u) us) (file_of t))) (not_first (length us)) ∙ order_behind u us t

none : (b : Bool) → ◌≡◌ {A = ℕ} 0 (pick b 0 (pick false 1 0))
unfolding pick
none true = refl
none false = refl

module _ (f : File) where
  -- whether the pair stands among them, and its offset: the first one's
  met_more : (ts : List Tail) (t : Tail) → stands ts f or same (file_of t) f ≡ stands (ts ++ (t ∷ [])) f
  unfolding ◌or◌
  met_more [] t = or_false (same (file_of t) f)
  met_more (u ∷ us) t = sym (or_apart (same (file_of u) f) (stands us f) _) ∙ ap (λ (b : Bool). same (file_of u) f or b) (met_more us t)

  saved_behind : (b s m : Bool) (x y z w : ℕ) → pick (s and not m) x z ≡ w → pick (s and not (b or m)) x (pick b y z) ≡ pick b y w
  unfolding pick ◌and◌ ◌or◌
  saved_behind true true m x y z w e = refl
  saved_behind true false m x y z w e = refl
  saved_behind false s m x y z w e = e

  saved_more : (ts : List Tail) (t : Tail) → pick (same (file_of t) f and not (stands ts f)) t.offset (saved_of ts f) ≡ saved_of (ts ++ (t ∷ [])) f
  saved_more [] t = ap (λ (b : Bool). pick b t.offset 0) (sym (and_true (same (file_of t) f)))
  saved_more (u ∷ us) t = saved_behind (same (file_of u) f) (same (file_of t) f) (stands us f) t.offset u.offset (saved_of us f) _ (saved_more us t)

  spot_behind : (y s m : Bool) (n k : ℕ) → pick (s and not (y or m)) (suc n) (pick y 0 (pick m (suc k) 0)) ≡ pick y 0 (pick (m or s) (suc (pick (s and not m) n k)) 0)
  unfolding pick ◌and◌ ◌or◌
  spot_behind true true m n k = refl
  spot_behind true false m n k = refl
  spot_behind false true true n k = refl
  spot_behind false true false n k = refl
  spot_behind false false true n k = refl
  spot_behind false false false n k = refl

  spot_more : (ts : List Tail) (t : Tail) → pick (same (file_of t) f and not (stands ts f)) (length ts) (spot_of ts f) ≡ spot_of (ts ++ (t ∷ [])) f
  spot_more [] t = each (λ (k : ℕ). k ≡ pick (same (file_of t) f) 0 (pick false 1 0)) (same (file_of t) f and not false) (none (same (file_of t) f)) (none (same (file_of t) f))
  spot_more (u ∷ us) t =
      spot_behind (same (file_of u) f) (same (file_of t) f) (stands us f) (length us) (spot_of us f)
      ∙ (λ j. pick (same (file_of u) f) 0 (pick (met_more us t j) (suc (spot_more us t j)) 0))

  -- so one record more, where it is in order, makes what is known of one more
  in_order : (ts : List Tail) (t : Tail) → ascending (ts ++ (t ∷ [])) ≡ true → eqb (length ts) 0 or before (last_of nobody ts) (file_of t) ≡ true
  in_order ts t a = (both (order_more ts t ∙ a)).1

  abbrev pieced : List Tail → Tail → Bool → ℕ → ℕ → Sweep
  pieced ts t met place offset = record { file = f; count = suc (length ts); last = file_of t; ordered = ascending ts; met = met; place = place; offset = offset }

  pieces : (ts : List Tail) (t : Tail) (s m : Bool) → pick (s and not m) (pieced ts t true (length ts) t.offset) (pieced ts t m (spot_of ts f) (saved_of ts f))
      ≡ pieced ts t (m or s) (pick (s and not m) (length ts) (spot_of ts f)) (pick (s and not m) t.offset (saved_of ts f))
  unfolding pick ◌and◌ ◌or◌
  pieces ts t true true = refl
  pieces ts t true false = refl
  pieces ts t false true = refl
  pieces ts t false false = refl

  pub known_more : (ts : List Tail) (t : Tail) → ascending (ts ++ (t ∷ [])) ≡ true → stepped (known ts f) t (suc (length ts)) ≡ known (ts ++ (t ∷ [])) f
  known_more ts t a =
      sym (no _ (ap not (in_order ts t a)) (sym (pieces ts t (same (file_of t) f) (stands ts f))))
      ∙ (λ j. record { file = f; count = long ts t j; last = last_more nobody ts t j; ordered = ((both (order_more ts t ∙ a)).0 ∙ sym a) j; met = met_more ts t j; place = spot_more ts t j; offset = saved_more ts t j })
