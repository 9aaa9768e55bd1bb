-- What a loop that moves records by one has done: the table's first i records are those that it is to have. Assumes nothing.
use Prim.Native.Nat.{ℕ, ◌+◌, ◌*◌, ◌%◌, ◌<◌, ◌≤◌}
use mathlib.Core.Path.{◌≡◌, refl, sym, ◌∙◌, ap, subst}
use mathlib.Core.List.{List, ◌++◌}
use native.Mathlib.Omega.{arith}
use lib.ListN.{length, get_or, set, take, drop, length-set, take-append-drop}
use Rattle.areas.proofs.Over.{Copying, copy_on, copy_all, over_rest}
use Rattle.tail_table.specs.Table.{tails_of, words_of, over_first, zeroes}
use Rattle.tail_table.specs.declared.Tail.{Tail}
use Rattle.tail_sweeps.proofs.Words.{tails_back, words_long, words_back, records}

-- the loop's words w, of w₀, after the first i of the records s; all of s have room
pub record Shifting (w₀ : List ℕ) (s : List Tail) (w : List ℕ) (i : ℕ) : Type 0 where
  pub copying : Copying (tails_of w₀) s (tails_of w) i
  pub threes : length w % 3 ≡ 0
  pub same_long : length w ≡ length w₀
  pub room : length s ≤ length (tails_of w₀)

module _ {w₀ : List ℕ} {s : List Tail} where
  -- where the first i stand there already
  pub shift_from : (i : ℕ) → length w₀ % 3 ≡ 0 → length s ≤ length (tails_of w₀) → i ≤ length s → take i s ≡ take i (tails_of w₀) → Shifting w₀ s w₀ i
  shift_from i e r l t = record {
    copying = record { within = l; front = sym (take-append-drop i (tails_of w₀)) ∙ ap (λ (x : List Tail). x ++ drop i (tails_of w₀)) (sym t); long = refl };
    threes = e;
    same_long = refl;
    room = r;
  }

  module _ {w : List ℕ} {i : ℕ} (v : Shifting w₀ s w i) where
    -- a record that is not yet moved
    pub still-there : (j : ℕ) → i ≤ j → get_or (tails_of w) j zeroes ≡ get_or (tails_of w₀) j zeroes
    still-there j l = ap (λ (x : List Tail). get_or x j zeroes) v.copying.front ∙ over_rest zeroes (tails_of w₀) s i j v.copying.within l

    -- records below the room have words
    pub in_words : (j : ℕ) → j < length (tails_of w₀) → j * 3 + 2 < length w
    in_words j l = let r = records w₀ in let e = v.threes in let k = v.same_long in omega (arith, r, e, k, l)

    -- one turn
    pub shift-more : {w' : List ℕ} {t : Tail} → w' ≡ words_of (set (tails_of w) i t) → t ≡ get_or s i zeroes → i < length s → Shifting w₀ s w' (i + 1)
    shift-more {w'} {t} p q l =
        let n = words_long (set (tails_of w) i t) in
        let m = length-set (tails_of w) i t in
        let k = ap length p in
        let c = v.copying.long in
        let r = records w₀ in
        let f = v.threes in
        let g = v.same_long in
        let o = v.room in
        record {
          copying = subst (λ (x : List Tail). Copying (tails_of w₀) s x (i + 1)) (ap (set (tails_of w) i) (sym q) ∙ sym (tails_back (set (tails_of w) i t)) ∙ ap tails_of (sym p)) (copy_on zeroes v.copying l (omega (arith, l, o)));
          threes = omega (arith, k, n, m, c);
          same_long = omega (arith, k, n, m, c, r, f, g);
          room = v.room;
        }

    -- all of it
    pub shift-all : i ≡ length s → w ≡ over_first s w₀
    shift-all e = sym (words_back w v.threes) ∙ ap words_of (copy_all v.copying e)
