-- The numbers of what was taken beside those of a whole record, and what they say of the updates and of the way back. Here p is the phase, f
-- forward, b back, n entries, a applied, k attempted, v restoring. Assumes nothing.
use Prim.Native.Nat.{ℕ, ◌+◌, ◌-◌, ◌≤◌, ◌<◌, max}
use mathlib.Core.Path.{◌≡◌, sym, ◌∙◌}
use mathlib.Core.Bool.{Bool, true, false, not}
use mathlib.Core.Logic.{◌≢◌}
use native.Mathlib.Omega.{arith}
use lib.Dec.{eqb, leb, ltb}
use borrow.Author.Tests.{lt-ltb, le-ltb, le-leb, lt-leb, eq-eqb, ne_eqb}
use Rattle.choice.specs.Pick.{◌and◌, ◌or◌}
use Rattle.choice.proofs.Tests.{join, no_left, no_right}
use Rattle.phases.specs.Phases.{has_successor}
use Rattle.demand_steps.proofs.Leaf.{Apart}
use Rattle.demand_steps.proofs.Facts.{by_case}
use Rattle.demand_steps.proofs.Testing.{right}
use Rattle.demand_steps.proofs.Wholeness.{left, successor_test}
use Rattle.demand_chains.proofs.Course.Kind.{structural}
use Rattle.plain.specs.declared.Taken.{Taken}
use Rattle.plain.specs.Plain.{is_updated, is_over}

pub record Fore (t : Taken) (f n a k : ℕ) : Type 0 where
  pub done : t.done ≡ f + a
  pub size : t.size ≡ n
  pub started : t.started ≡ k
  pub undone : t.undone ≡ 0

pub record Numbers (t : Taken) (p f b n a k : ℕ) (v : Bool) : Type 0 where
  pub turning : t.turned ≡ v
  pub ahead : v ≡ false → Fore t f n a k
  pub behind : v ≡ true → t.undone + n ≡ t.started + b
  pub over : t.structural ≡ true → v ≡ false → t.size ≡ 0 → t.closed ≡ leb 6 p

-- phases 1 to 4, 6 and 9 to 12
apart : (p : ℕ) → 1 ≤ p → p ≤ 12 → p ≢ 5 → p ≢ 7 → p ≢ 8 → Apart p
apart p h g x y z = record { not0 = λ e. omega arith; not5 = x; not7 = y; not8 = z; not13 = λ e. omega arith }

pub has : (p : ℕ) → 1 ≤ p → p ≤ 12 → p ≢ 5 → p ≢ 7 → p ≢ 8 → has_successor p ≡ true
has p h g x y z = successor_test p (omega arith) (apart p h g x y z)

-- two tests that hold alike
pub alike : (x y z w : ℕ) → (x < y → z < w) → (z < w → x < y) → ltb x y ≡ ltb z w
alike x y z w f g = by_case x y
    (λ (h : x < y). lt-ltb x y h ∙ sym (lt-ltb z w (f h)))
    (λ h. by_case z w (λ (j : z < w). let q = g j in absurd (omega arith)) (λ j. le-ltb x y h ∙ sym (le-ltb z w j)))

module _ (t : Taken) {p f b n a k : ℕ} {v : Bool} (m : Numbers t p f b n a k v) where
  -- the updates are not over in phase 5, and over in 6 and 7
  pub not_over : t.structural ≡ true → v ≡ false → p ≡ 5 → f ≡ 4 → a < max n 1 → is_over t ≡ false
  unfolding is_over is_updated ◌or◌
  not_over s e h i j =
      let x = m.ahead e in
      by_case 0 n
      (λ (y : 0 < n). no_left _ (simp s (lt-leb (4 + t.size) t.done (omega (arith, x.done, x.size)))))
      (λ (y : n ≤ 0). let z : t.size ≡ 0 = omega (arith, x.size) in no_right _ (simp (m.over s e z, h, z)))

  pub is_over_lem : t.structural ≡ true → v ≡ false → 6 ≤ p → f + 2 ≡ p → a ≡ n → is_over t ≡ true
  unfolding is_over is_updated ◌or◌
  is_over_lem s e h i j =
      let x = m.ahead e in
      join (simp s (le-leb (4 + t.size) t.done (omega (arith, x.done, x.size))))
      (by_case 0 n
      (λ (y : 0 < n). right t.closed (lt-ltb 0 t.size (omega (arith, x.size))))
      (λ (y : n ≤ 0). left (ltb 0 t.size) (m.over s e (omega (arith, x.size)) ∙ le-leb 6 p h)))

  -- on the way back
  pub last : 9 ≤ p → p ≤ 13 → b + 9 ≡ p → n ≡ 0 → t.undone + n ≡ t.started + b → not (eqb t.undone (t.started + 4)) ≡ has_successor p
  unfolding has_successor ◌and◌ ◌or◌
  last h g i j x = by_case p 13
      (λ (y : p < 13). simp (ne_eqb t.undone (t.started + 4) (λ e. omega arith)) (sym (has p (omega arith) (omega arith) (λ e. omega arith) (λ e. omega arith) (λ e. omega arith))))
      (λ (y : 13 ≤ p). let e : p ≡ 13 = omega arith in simp (eq-eqb t.undone (t.started + 4) (omega arith), e))
