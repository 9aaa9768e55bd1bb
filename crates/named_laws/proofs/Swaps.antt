-- Exchanging, as areas has it (areas/proofs/Over.antt, Blocks.antt): one turn of an exchange from a place on, and all that is left of one.
-- Assumes nothing.
use mathlib.Core.Path.{◌≡◌, sym, ap, subst, ◌∙◌}
use mathlib.Core.List.{List, ◌++◌}
use Prim.Native.Nat.{ℕ, ◌+◌, ◌≤◌, ◌<◌}
use native.Mathlib.Nat.{le_refl}
use native.Mathlib.Omega.{arith}
use lib.ListN.{length, take, drop, get_or, set, take-append-drop}
use lib.Seq.{length-take-le, drop_at}
use Rattle.areas.proofs.Over.{over, Copying, over_rest}
use Rattle.areas.proofs.Blocks.{done}
use Rattle.named_laws.proofs.Copies.{copy_more, over_long}

-- one turn of an exchange from a place on: x takes from y what y has not yet given away
pub swap_more : {d s x y : List ℕ} {at i : ℕ} → Copying d (over s d at) x i → Copying s (over d s at) y i → at ≤ i → i < length s → i < length d
    → Copying d (over s d at) (set x i (get_or y i 0)) (i + 1)
swap_more {d} {s} {x} {y} {at} {i} v w h hs hd =
    let given : get_or y i 0 ≡ get_or (over s d at) i 0 =
    ap (λ (l : List ℕ). get_or l i 0) w.front
    ∙ over_rest 0 s (over d s at) i i w.within (le_refl i)
    ∙ sym (over_rest 0 s d at i (omega arith) h) in
    subst (λ (e : ℕ). Copying d (over s d at) (set x i e) (i + 1)) (sym given) (copy_more v (omega (arith, over_long s d at (omega arith) (omega arith))) hd)

-- behind what is copied stands what was there
kept : {d s m : List ℕ} {i : ℕ} → Copying d s m i → drop i m ≡ drop i d
kept {d} {s} {m} {i} v = ap (drop i) v.front ∙ drop_at (take i s) (drop i d) i (length-take-le i s v.within)

-- an exchange that is under way: x takes from y what y has not yet given away, here all that is left
module _ {d s x y : List ℕ} {i : ℕ} (v : Copying d s x i) (w : Copying s d y i) where
  pub swap_rest : {l : List ℕ} → l ≡ take i x ++ drop i y → l ≡ s
  swap_rest e = e ∙ ap (λ (r : List ℕ). r ++ drop i y) (done v) ∙ ap (λ (r : List ℕ). take i s ++ r) (kept w) ∙ take-append-drop i s
