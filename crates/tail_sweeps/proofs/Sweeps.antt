-- A sweep is what is known of the records, where these are in order, and else says that they are not; and one record more is one step
-- more. Assumes nothing.
use Prim.Native.Nat.{ℕ, suc, ◌+◌, ◌<◌}
use mathlib.Core.Path.{◌≡◌, refl, sym, ◌∙◌, ap, subst}
use mathlib.Core.Bool.{Bool, true, false, not}
use mathlib.Core.List.{List, [], ◌∷◌, ◌++◌, append-nil}
use native.Mathlib.Nat.{le_of_lt}
use native.Mathlib.Numerals.{add-one}
use native.Mathlib.Omega.{arith}
use lib.Dec.{eqb}
use lib.ListN.{length, get_or, take}
use lib.Seq.{take-suc, length-take-le, append_snoc}
use Rattle.choice.specs.Pick.{◌and◌, ◌or◌}
use Rattle.choice.proofs.Picks.{each, yes}
use Rattle.choice.proofs.Tests.{both, join, never, test}
use Rattle.tail_table.specs.Table.{file_of, before, ascending, zeroes}
use Rattle.tail_table.specs.Sweeping.{nobody, last_of, known, stepped, swept_on, swept}
use Rattle.tail_table.specs.declared.Tail.{Tail}
use Rattle.tail_table.specs.declared.File.{File}
use Rattle.tail_table.specs.declared.Sweep.{Sweep}
use Rattle.tail_sweeps.proofs.Knowing.{and_second, long, order_more, known_more}

module _ (f : File) where
  -- records that are out of order stay so, and one that does not come after the last makes them so
  stays : (s : Sweep) (t : Tail) (n : ℕ) → s.ordered ≡ false → (stepped s t n).ordered ≡ false
  stays s t n e = each (λ (x : Sweep). x.ordered ≡ false) _ refl (each (λ (x : Sweep). x.ordered ≡ false) _ e e)

  stays_on : (s : Sweep) (n : ℕ) (ts : List Tail) → s.ordered ≡ false → (swept_on s n ts).ordered ≡ false
  stays_on s n [] e = e
  stays_on s n (t ∷ ts) e = stays_on (stepped s t (suc n)) (suc n) ts (stays s t (suc n) e)

  falls_out : (ts : List Tail) (t : Tail) → ascending ts ≡ true → ascending (ts ++ (t ∷ [])) ≡ false → (stepped (known ts f) t (suc (length ts))).ordered ≡ false
  falls_out ts t a e = ap (λ (x : Sweep). x.ordered) (sym (yes _ (ap not (and_second (ap (λ (b : Bool). b and next) (sym a) ∙ order_more ts t ∙ e))) refl))
    where
      next : Bool
      next = eqb (length ts) 0 or before (last_of nobody ts) (file_of t)

  -- records in order, with more behind them
  front_ascends : (ts us : List Tail) → ascending (ts ++ us) ≡ true → ascending ts ≡ true
  front_ascends [] us a = refl
  front_ascends (t ∷ []) us a = join refl refl
  front_ascends (t ∷ v ∷ vs) us a = join (both a).0 (front_ascends (v ∷ vs) us (both a).1)

  -- so a sweep that goes on from records in order is what is known, or out of order
  pub record Told (ts : List Tail) (s : Sweep) : Type 0 where
    pub orders : s.ordered ≡ ascending ts
    pub knows : ascending ts ≡ true → s ≡ known ts f

  not_further : (ts : List Tail) (u : Tail) (us : List Tail) → ascending (ts ++ (u ∷ [])) ≡ false → ascending (ts ++ (u ∷ us)) ≡ false
  not_further ts u us e =
      test (ascending (ts ++ (u ∷ us)))
      (λ a. never (sym (front_ascends (ts ++ (u ∷ [])) us (ap ascending (append_snoc ts u us) ∙ a)) ∙ e))
      (λ a. a)

  goes_on_lem : (ts us : List Tail) → ascending ts ≡ true → Told (ts ++ us) (swept_on (known ts f) (length ts) us)
  goes_on_lem ts [] a = subst (λ (xs : List Tail). Told xs (known ts f)) (sym (append-nil ts)) (record { orders = refl; knows = λ e. refl })
  goes_on_lem ts (u ∷ us) a =
      test (ascending (ts ++ (u ∷ [])))
      (λ e.
      subst (λ (xs : List Tail). Told xs (swept_on (stepped (known ts f) u (suc (length ts))) (suc (length ts)) us)) (append_snoc ts u us)
      (subst (λ (n : ℕ). Told ((ts ++ (u ∷ [])) ++ us) (swept_on (stepped (known ts f) u (suc (length ts))) n us)) (sym (long ts u))
      (subst (λ (s : Sweep). Told ((ts ++ (u ∷ [])) ++ us) (swept_on s (length (ts ++ (u ∷ []))) us)) (sym (known_more f ts u e)) (goes_on_lem (ts ++ (u ∷ [])) us e))))
      (λ e.
      let n = not_further ts u us e in
      record { orders = stays_on (stepped (known ts f) u (suc (length ts))) (suc (length ts)) us (falls_out ts u a e) ∙ sym n; knows = λ k. never (sym k ∙ n) })

  pub swept_is : (ts : List Tail) → Told ts (swept ts f)
  swept_is ts = goes_on_lem [] ts refl

-- one record more
on_more : (s : Sweep) (n : ℕ) (ts : List Tail) (t : Tail) → stepped (swept_on s n ts) t (suc (n + length ts)) ≡ swept_on s n (ts ++ (t ∷ []))
on_more s n [] t = ap (stepped s t) (omega arith)
on_more s n (u ∷ us) t = ap (λ (k : ℕ). stepped (swept_on (stepped s u (suc n)) (suc n) us) t (suc k)) (omega arith) ∙ on_more (stepped s u (suc n)) (suc n) us t

pub swept_more : (ts : List Tail) (f : File) (i : ℕ) → i < length ts → stepped (swept (take i ts) f) (get_or ts i zeroes) (suc i) ≡ swept (take (suc i) ts) f
swept_more ts f i l =
    let n = length-take-le i ts (le_of_lt l) in
    ap (λ (k : ℕ). stepped (swept (take i ts) f) (get_or ts i zeroes) (suc k)) (omega (arith, n))
    ∙ on_more (known [] f) 0 (take i ts) (get_or ts i zeroes)
    ∙ ap (λ (us : List Tail). swept us f) (sym (take-suc ts i zeroes l))

-- a turn of a loop: s is the sweep of the first i, t the next record, and s' one step on
pub swept_on_lem : {s s' : Sweep} {t : Tail} (ts : List Tail) (f : File) (i : ℕ) → s ≡ swept (take i ts) f → t ≡ get_or ts i zeroes → s' ≡ stepped s t (i + 1) → i < length ts → s' ≡ swept (take (i + 1) ts) f
swept_on_lem {s} {s'} {t} ts f i p q r l =
    r
    ∙ ap (λ (x : Sweep). stepped x t (i + 1)) p
    ∙ ap (λ (x : Tail). stepped (swept (take i ts) f) x (i + 1)) q
    ∙ ap (stepped (swept (take i ts) f) (get_or ts i zeroes)) (add-one i)
    ∙ swept_more ts f i l
    ∙ ap (λ (k : ℕ). swept (take k ts) f) (sym (add-one i))
