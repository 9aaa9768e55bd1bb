-- The way back: where the facts of `Whole` hold, the test of wholeness passes. Assumes nothing.
use Prim.Native.Nat.{ℕ, ◌≤◌, ◌<◌}
use mathlib.Core.Path.{◌≡◌, refl}
use mathlib.Core.Bool.{Bool, true, false, not}
use native.Mathlib.Omega.{arith}
use borrow.Author.Tests.{le-leb, eq-eqb, lt-ltb, eqb-true, leb-true}
use Rattle.choice.specs.Pick.{◌and◌, ◌or◌, ◌implies◌}
use Rattle.choice.proofs.Tests.{both, either, join}
use Rattle.wholeness.specs.Whole.{forward_fits, back_fits, restoring_fits}
use Rattle.demand_steps.proofs.Facts.{Ahead, Behind, Turned, Stage, tests, by_case}
use Rattle.demand_steps.proofs.Facts.Stage.{flat, flat_back, before, updating, after, undoing, backing}

-- each row says what the ranges say
pub record Ranges (p f b n a k : ℕ) (v : Bool) : Type 0 where
  pub ahead : Ahead p f
  pub behind : Behind p b
  pub turned : Turned v p n a k
  pub bound : p ≤ 13

pub ranges : {p f b n a k : ℕ} {v : Bool} → Stage p f b n a k v → Ranges p f b n a k v
ranges (flat x1 x2 x3 x4) = omega tests
ranges (flat_back x1 x2 x3 x4 x5) = omega tests
ranges (before x1 x2 x3 x4 x5 x6) = omega tests
ranges (updating x1 x2 x3 x4 x5) = omega tests
ranges (after x1 x2 x3 x4 x5 x6) = omega tests
ranges (undoing x1 x2 x3 x4 x5 x6 x7) = omega tests
ranges (backing x1 x2 x3 x4 x5 x6 x7) = omega tests

-- tests, made from facts
pub right : (a : Bool) {b : Bool} → b ≡ true → a or b ≡ true
unfolding ◌or◌
right true h = refl
right false h = h

either_one : (a b : Bool) → (a ≡ false → b ≡ true) → a or b ≡ true
unfolding ◌or◌
either_one true b f = refl
either_one false b f = f refl

given : (a b : Bool) → (a ≡ true → b ≡ true) → a implies b ≡ true
unfolding ◌implies◌
given true b f = f refl
given false b f = refl

pub not_yes : (b : Bool) → b ≡ false → not b ≡ true
not_yes b e = rw e

forward_at : (p f c d : ℕ) → p ≡ c → f ≡ d → forward_fits c d ≡ true → forward_fits p f ≡ true
forward_at p f c d e g h = rw (e, g) h

forward_late : (p f : ℕ) → 9 ≤ p → f ≤ 5 → forward_fits p f ≡ true
unfolding forward_fits
forward_late p f h g = right _ (join (le-leb _ _ h) (le-leb _ _ g))

pub forward_test : (p f : ℕ) → Ahead p f → forward_fits p f ≡ true
unfolding forward_fits ◌and◌ ◌or◌
forward_test p f x =
    by_case p 1 (λ (h : p < 1). forward_at p f 0 0 (omega arith) (x.start (omega arith)) refl) (λ (h1 : 1 ≤ p).
    by_case p 2 (λ (h : p < 2). forward_at p f 1 0 (omega arith) (omega (arith, x.early h1 (omega arith))) refl) (λ (h2 : 2 ≤ p).
    by_case p 3 (λ (h : p < 3). forward_at p f 2 1 (omega arith) (omega (arith, x.early h1 (omega arith))) refl) (λ (h3 : 3 ≤ p).
    by_case p 4 (λ (h : p < 4). forward_at p f 3 2 (omega arith) (omega (arith, x.early h1 (omega arith))) refl) (λ (h4 : 4 ≤ p).
    by_case p 5 (λ (h : p < 5). forward_at p f 4 3 (omega arith) (omega (arith, x.early h1 (omega arith))) refl) (λ (h5 : 5 ≤ p).
    by_case p 6 (λ (h : p < 6). forward_at p f 5 4 (omega arith) (x.middle (omega arith)) refl) (λ (h6 : 6 ≤ p).
    by_case p 7 (λ (h : p < 7). forward_at p f 6 4 (omega arith) (omega (arith, x.late h6 (omega arith))) refl) (λ (h7 : 7 ≤ p).
    by_case p 8 (λ (h : p < 8). forward_at p f 7 5 (omega arith) (omega (arith, x.late h6 (omega arith))) refl) (λ (h8 : 8 ≤ p).
    by_case p 9 (λ (h : p < 9).
    by_case f 5 (λ (g : f < 5). forward_at p f 8 4 (omega arith) (omega (arith, x.turning (omega arith))) refl) (λ (g : 5 ≤ f). forward_at p f 8 5 (omega arith) (omega (arith, x)) refl))
    (λ (h9 : 9 ≤ p). forward_late p f h9 x.bound)))))))))

back_at_lem : (p b c d : ℕ) → p ≡ c → b ≡ d → back_fits c d ≡ true → back_fits p b ≡ true
back_at_lem p b c d e g h = rw (e, g) h

back_early : (p b : ℕ) → p ≤ 9 → b ≡ 0 → back_fits p b ≡ true
unfolding back_fits ◌and◌ ◌or◌
back_early p b h e = simp (e, le-leb p 9 h)

pub back_test : (p b : ℕ) → p ≤ 13 → Behind p b → back_fits p b ≡ true
unfolding back_fits ◌and◌ ◌or◌
back_test p b m x =
    by_case p 9 (λ (h : p < 9). back_early p b (omega arith) (x.early h)) (λ (h9 : 9 ≤ p).
    let e = x.late h9 in
    by_case p 10 (λ (h : p < 10). back_at_lem p b 9 0 (omega arith) (omega arith) refl) (λ (h10 : 10 ≤ p).
    by_case p 11 (λ (h : p < 11). back_at_lem p b 10 1 (omega arith) (omega arith) refl) (λ (h11 : 11 ≤ p).
    by_case p 12 (λ (h : p < 12). back_at_lem p b 11 2 (omega arith) (omega arith) refl) (λ (h12 : 12 ≤ p).
    by_case p 13 (λ (h : p < 13). back_at_lem p b 12 3 (omega arith) (omega arith) refl) (λ (h13 : 13 ≤ p). back_at_lem p b 13 4 (omega arith) (omega arith) refl)))))

pub turned_test : (v : Bool) (p n a k : ℕ) → a ≤ n → Turned v p n a k → restoring_fits v p n a k ≡ true
unfolding restoring_fits
turned_test v p n a k o x =
    join (join (join (join (join (join (join
    (given _ _ (λ h. eq-eqb _ _ (x.all h)))
    (given _ _ (λ h. let y = both h in not_yes _ (x.ahead (leb-true _ _ y.0) (leb-true _ _ y.1)))))
    (given _ _ (λ h. let y = both h in eq-eqb _ _ (x.untried (leb-true _ _ y.0) (leb-true _ _ y.1)))))
    (given _ _ (λ h. either_one _ _ (λ g. let y = x.some (eqb-true _ _ h) o in eq-eqb n 0 (omega tests)))))
    (given _ _ (λ h. eq-eqb a n (either h (λ g. x.applied (omega tests) (omega tests)) (λ g. x.applied (omega tests) (omega tests))))))
    (given _ _ (λ h. x.behind (leb-true _ _ h))))
    (given _ _ (λ h. lt-ltb _ _ (x.left (eqb-true _ _ h)))))
    (given _ _ (λ h. eq-eqb _ _ (x.empty (leb-true _ _ h))))
