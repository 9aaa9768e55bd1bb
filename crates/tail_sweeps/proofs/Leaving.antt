-- A record that is taken out: what the loop has done that moves each record behind it down by one. Assumes nothing.
use Prim.Native.Nat.{ℕ, suc, ◌+◌, ◌%◌, ◌<◌, ◌≤◌}
use mathlib.Core.Path.{◌≡◌, sym, ◌∙◌, ap}
use mathlib.Core.List.{List, [], ◌∷◌, ◌++◌}
use native.Mathlib.Numerals.{add-one}
use native.Mathlib.Nat.{le_of_lt}
use native.Mathlib.Omega.{arith}
use lib.ListN.{length, get_or, set, take, length-append, get_or-append}
use lib.Seq.{length-take-le, get_or-take, take-take, take-append-le, get_or_at}
use Rattle.tail_table.specs.Table.{tails_of, words_of, used_of, over_first, zeroes}
use Rattle.tail_table.specs.Sweeping.{cut}
use Rattle.tail_table.specs.declared.Tail.{Tail}
use Rattle.tail_sweeps.proofs.Placing.{cut_long, cut_front, cut_behind}
use Rattle.tail_sweeps.proofs.Shifting.{Shifting, shift_from, still-there, shift-more, shift-all}

-- what the first records are to be
abbrev pub less_of : List ℕ → ℕ → ℕ → List Tail
less_of w₀ place used = cut place (used_of w₀ used) ++ zeroes ∷ []

pub record Leaving (w₀ : List ℕ) (place used : ℕ) (w : List ℕ) (i : ℕ) : Type 0 where
  pub shifting : Shifting w₀ (less_of w₀ place used) w i
  pub from : place ≤ i
  pub upto : i < used

module _ (w₀ : List ℕ) (place used : ℕ) (r : used ≤ length (tails_of w₀)) (l : place < used) where
  us_long : length (used_of w₀ used) ≡ used
  us_long = length-take-le used (tails_of w₀) r

  short : suc (length (cut place (used_of w₀ used))) ≡ used
  short = let n = us_long in cut_long (used_of w₀ used) place (omega (arith, n, l)) ∙ us_long

  long : length (less_of w₀ place used) ≡ used
  long = let n = short in let m = length-append (cut place (used_of w₀ used)) (zeroes ∷ []) in omega (arith, n, m)

  front : take place (less_of w₀ place used) ≡ take place (tails_of w₀)
  front =
      let n = short in
      take-append-le place (cut place (used_of w₀ used)) (zeroes ∷ []) (omega (arith, n, l))
      ∙ cut_front (used_of w₀ used) place
      ∙ take-take place used (tails_of w₀) (le_of_lt l)

  pub leave_from : length w₀ % 3 ≡ 0 → Leaving w₀ place used w₀ place
  leave_from e =
      let n = long in
      record { shifting = shift_from place e (omega (arith, n, r)) (omega (arith, n, l)) front; from = omega arith; upto = l }

  module _ {w w' : List ℕ} {i : ℕ} (v : Leaving w₀ place used w i) where
    pub leave-more : {next : Tail} → i + 1 < used → next ≡ get_or (tails_of w) (i + 1) zeroes → w' ≡ words_of (set (tails_of w) i next) → Leaving w₀ place used w' (i + 1)
    leave-more m q s =
        let n = short in
        let o = long in
        let f = v.from in
        record {
          shifting = shift-more v.shifting s
              (q
              ∙ still-there v.shifting (i + 1) (omega arith)
              ∙ sym (get_or-take used (tails_of w₀) (i + 1) zeroes m)
              ∙ ap (λ (k : ℕ). get_or (used_of w₀ used) k zeroes) (add-one i)
              ∙ sym (cut_behind (used_of w₀ used) place i f)
              ∙ sym (get_or-append (cut place (used_of w₀ used)) (zeroes ∷ []) zeroes i (omega (arith, n, m))))
              (omega (arith, o, m));
          from = omega (arith, f);
          upto = m;
        }

    -- the last record is zeroed
    last : i + 1 ≡ used → w' ≡ words_of (set (tails_of w) i zeroes) → Shifting w₀ (less_of w₀ place used) w' (i + 1)
    last e s =
        let n = short in
        let o = long in
        shift-more v.shifting s (sym (get_or_at (cut place (used_of w₀ used)) zeroes [] zeroes i (omega (arith, n, e)))) (omega (arith, o, e))

    pub leave-all : i + 1 ≡ used → w' ≡ words_of (set (tails_of w) i zeroes) → w' ≡ over_first (less_of w₀ place used) w₀
    leave-all e s = shift-all (last e s) (e ∙ sym long)
