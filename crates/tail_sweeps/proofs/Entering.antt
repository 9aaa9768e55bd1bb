-- A record that is put in: what the loop has done that carries each record to the next place. Assumes nothing.
use Prim.Native.Nat.{ℕ, suc, ◌+◌, ◌%◌, ◌<◌, ◌≤◌}
use mathlib.Core.Path.{◌≡◌, sym, ◌∙◌, ap, subst}
use mathlib.Core.List.{List}
use native.Mathlib.Numerals.{add-one}
use native.Mathlib.Nat.{le_of_lt}
use native.Mathlib.Omega.{arith}
use lib.ListN.{length, get_or, set, take}
use lib.Seq.{length-take-le, get_or-take, take-take}
use Rattle.tail_table.specs.Table.{tails_of, words_of, file_of, used_of, entered, over_first, zeroes}
use Rattle.tail_table.specs.Sweeping.{place_of}
use Rattle.tail_table.specs.declared.Tail.{Tail}
use Rattle.tail_sweeps.proofs.Placing.{place_within, entered_long, entered_front, entered_there, entered_behind}
use Rattle.tail_sweeps.proofs.Shifting.{Shifting, shift_from, still-there, shift-more, shift-all}

-- after the records below i, with the one that comes next in hand
pub record Entering (w₀ : List ℕ) (place used : ℕ) (t : Tail) (w : List ℕ) (carried : Tail) (i : ℕ) : Type 0 where
  pub shifting : Shifting w₀ (entered t (used_of w₀ used)) w i
  pub carries : carried ≡ get_or (entered t (used_of w₀ used)) i zeroes
  pub from : place ≤ i
  pub upto : i ≤ used

module _ (w₀ : List ℕ) (place used : ℕ) (t : Tail) (r : used < length (tails_of w₀)) (p : place ≡ place_of (used_of w₀ used) (file_of t)) where
  us_long : length (used_of w₀ used) ≡ used
  us_long = length-take-le used (tails_of w₀) (le_of_lt r)

  long : length (entered t (used_of w₀ used)) ≡ suc used
  long = entered_long t (used_of w₀ used) ∙ ap suc us_long

  pub inside : place ≤ used
  inside = let h = place_within (used_of w₀ used) (file_of t) in let n = us_long in let q = p in omega (arith, h, n, q)

  front : take place (entered t (used_of w₀ used)) ≡ take place (tails_of w₀)
  front =
      subst (λ (k : ℕ). take k (entered t (used_of w₀ used)) ≡ take k (used_of w₀ used)) (sym p) (entered_front t (used_of w₀ used))
      ∙ take-take place used (tails_of w₀) inside

  pub enter_from : length w₀ % 3 ≡ 0 → Entering w₀ place used t w₀ t place
  enter_from e =
      let n = long in
      let h = inside in
      record {
        shifting = shift_from place e (omega (arith, n, r)) (omega (arith, n, h)) front;
        carries = sym (entered_there t (used_of w₀ used)) ∙ ap (λ (k : ℕ). get_or (entered t (used_of w₀ used)) k zeroes) (sym p);
        from = omega arith;
        upto = inside;
      }

  module _ {w w' : List ℕ} {carried : Tail} {i : ℕ} (v : Entering w₀ place used t w carried i) where
    turn : i ≤ used → w' ≡ words_of (set (tails_of w) i carried) → Shifting w₀ (entered t (used_of w₀ used)) w' (i + 1)
    turn l q = let n = long in shift-more v.shifting q v.carries (omega (arith, n, l))

    pub enter-more : {next : Tail} → i < used → next ≡ get_or (tails_of w) i zeroes → w' ≡ words_of (set (tails_of w) i carried) → Entering w₀ place used t w' next (i + 1)
    enter-more l q s =
        let m = v.from in
        record {
          shifting = turn (le_of_lt l) s;
          carries =
              q
              ∙ still-there v.shifting i (omega arith)
              ∙ sym (get_or-take used (tails_of w₀) i zeroes l)
              ∙ sym (entered_behind t (used_of w₀ used) i (subst (λ (k : ℕ). k ≤ i) p m))
              ∙ ap (λ (k : ℕ). get_or (entered t (used_of w₀ used)) k zeroes) (sym (add-one i));
          from = omega (arith, m);
          upto = omega (arith, l);
        }

    -- the last record is put down where i has come to the first that was not in use
    last : i ≡ used → w' ≡ words_of (set (tails_of w) used carried) → Shifting w₀ (entered t (used_of w₀ used)) w' (i + 1)
    last e s = turn (omega (arith, e)) (s ∙ ap (λ (k : ℕ). words_of (set (tails_of w) k carried)) (sym e))

    pub enter-all : i ≡ used → w' ≡ words_of (set (tails_of w) used carried) → w' ≡ over_first (entered t (used_of w₀ used)) w₀
    enter-all e s = let n = long in shift-all (last e s) (omega (arith, e, n))
