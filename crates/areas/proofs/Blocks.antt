-- What a copy by parts and an exchange by blocks have done: putting a block over an area, how far either is then, and what is left behind the last. Assumes nothing.
use mathlib.Core.Path.{◌≡◌, refl, sym, ap, ◌∙◌}
use mathlib.Core.List.{List, ◌++◌, append-nil}
use Prim.Native.Nat.{ℕ, ◌+◌, ◌-◌, ◌≤◌, ◌<◌}
use native.Mathlib.Numerals.{add-one}
use native.Mathlib.Omega.{arith}
use lib.ListN.{length, take, drop, get_or, set, length-set, length-drop, take-append-drop}
use lib.Seq.{length-take-le, take_at, drop_at, take-length, drop-length, take-take, take-add, drop-drop, paste, paste-zero, paste-suc, length-paste}
use borrow.Rule.Slice.PartMut.{put_mid}
use Rattle.areas.proofs.Over.{Copying}

-- a copy that is under way: what is copied, and behind it what was there
module _ {A : Type 0} {d s m : List A} {i : ℕ} (v : Copying d s m i) where
  pub done : take i m ≡ take i s
  done = ap (take i) v.front ∙ take_at (take i s) (drop i d) i (length-take-le i s v.within)

  kept : drop i m ≡ drop i d
  kept = ap (drop i) v.front ∙ drop_at (take i s) (drop i d) i (length-take-le i s v.within)

  -- it goes on with an area l where the next n of s are put behind those that are copied
  pub part_more : {l : List A} (n : ℕ) → l ≡ paste m i (drop i s) n → i + n ≤ length s → i + n ≤ length d → Copying d s l (i + n)
  part_more n e hs hd = record {
    within = hs;
    front =
        e
        ∙ ap (λ (r : List A). r ++ take n (drop i s) ++ drop (i + n) m) done
        ∙ ap (λ (r : List A). r ++ drop (i + n) m) (sym (take-add i n s))
        ∙ ap (λ (r : List A). take (i + n) s ++ r) (sym (drop-drop n i m) ∙ ap (drop n) kept ∙ drop-drop n i d);
    long = ap length e ∙ length-paste m i (drop i s) n (omega (arith, v.long)) (omega (arith, length-drop i s)) ∙ v.long;
  }

-- an exchange that is under way: x takes from y what y has not yet given away, the next n or all that is left
module _ {d s x y : List ℕ} {i : ℕ} (v : Copying d s x i) (w : Copying s d y i) where
  pub swap_part : {l : List ℕ} (n : ℕ) → l ≡ paste x i (drop i y) n → i + n ≤ length s → i + n ≤ length d → Copying d s l (i + n)
  swap_part n e hs hd = part_more v n (e ∙ ap (λ (r : List ℕ). paste x i r n) (kept w)) hs hd

  pub swap_rest : {z : List ℕ} → length s ≡ length d → z ≡ take (length y - i) (drop i y) → put_mid i (length x - i) x z ≡ s
  swap_rest same e =
      let n = length x - i in
      let all : length y - i ≡ length (drop i y) = sym (length-drop i y) in
      let end : i + n ≡ length x = omega (arith, v.within, v.long, same) in
      ap (λ (r : List ℕ). take i x ++ (r ++ drop n (drop i x))) (e ∙ ap (λ (q : ℕ). take q (drop i y)) all ∙ take-length (drop i y))
      ∙ ap (λ (r : List ℕ). take i x ++ (drop i y ++ r)) (drop-drop n i x ∙ ap (λ (q : ℕ). drop q x) end ∙ drop-length x)
      ∙ ap (λ (r : List ℕ). take i x ++ r) (append-nil (drop i y))
      ∙ ap (λ (r : List ℕ). r ++ drop i y) (done v)
      ∙ ap (λ (r : List ℕ). take i s ++ r) (kept w)
      ∙ take-append-drop i s

-- the loop's area l after the first j of b were put over d from a place on
pub record Putting (d : List ℕ) (at : ℕ) (b l : List ℕ) (j : ℕ) : Type 0 where
  pub front : l ≡ paste d at b j
  pub long : length l ≡ length d

pub put_none : (d : List ℕ) (at : ℕ) (b : List ℕ) → Putting d at b d 0
put_none d at b = record { front = paste-zero d at b; long = refl }

-- one turn of it
pub put_more : {d b l : List ℕ} {at j : ℕ} → Putting d at b l j → at + j < length d → j < length b → Putting d at b (set l (at + j) (get_or b j 0)) (j + 1)
put_more {d} {b} {l} {at} {j} v hd hb = record {
  front =
      ap (λ (k : List ℕ). set k (at + j) (get_or b j 0)) v.front
      ∙ paste-suc d at b j 0 hd hb
      ∙ ap (paste d at b) (sym (add-one j));
  long = length-set l (at + j) (get_or b j 0) ∙ v.long;
}

-- all of it
pub put_all : {d b l : List ℕ} {at j n : ℕ} → Putting d at b l j → j ≡ n → l ≡ paste d at b n
put_all {d} {b} {l} {at} v e = v.front ∙ ap (paste d at b) e

-- a block that was read is put as what it was read from
pub put_read : (d s : List ℕ) {b l : List ℕ} (at n : ℕ) → b ≡ take n (drop at s) → l ≡ paste d at b n → l ≡ paste d at (drop at s) n
put_read d s at n e f =
    f
    ∙ ap (λ (k : List ℕ). paste d at k n) e
    ∙ ap (λ (r : List ℕ). take at d ++ r ++ drop (at + n) d) (take-take n n (drop at s) (omega arith))
