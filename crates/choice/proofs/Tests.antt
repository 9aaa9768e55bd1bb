-- What a test that holds, or does not, says of its parts; and the tests that omega reads as facts. Assumes nothing.
use mathlib.Core.Path.{◌≡◌, refl, sym}
use mathlib.Core.Bool.{Bool, true, false}
use mathlib.Core.Logic.{◌≢◌}
use Prim.Native.Nat.{ℕ}
use native.Mathlib.Omega.{arith}
use lib.Dec.{eqb}
use borrow.Author.Rules.{rules}
use borrow.Author.Tests.{ltb-true, ltb-false, leb-true, leb-false, eqb-true, eqb-false, eq-eqb, ne_eqb, le-leb, lt-leb, lt-ltb, le-ltb}
use Rattle.choice.specs.Pick.{◌and◌, ◌or◌, ◌implies◌}

pub never : {P : Type 0} → true ≡ false → P
never e = let z : ◌≡◌ {A = ℕ} 0 1 = cc in absurd (omega arith)

pub both : {a b : Bool} → a and b ≡ true → (a ≡ true) × (b ≡ true)
unfolding ◌and◌
both {a = true} h = (refl, h)
both {a = false} h = never (sym h)

pub join : {a b : Bool} → a ≡ true → b ≡ true → a and b ≡ true
unfolding ◌and◌
join p q = simp (p, q)

pub no_left : {a : Bool} (b : Bool) → a ≡ false → a and b ≡ false
unfolding ◌and◌
no_left b p = simp p

pub no_right : (a : Bool) {b : Bool} → b ≡ false → a and b ≡ false
unfolding ◌and◌
no_right true p = p
no_right false p = refl

pub and_true : (a : Bool) → a ≡ a and true
unfolding ◌and◌
and_true true = refl
and_true false = refl

pub either : {a b : Bool} {P : Type 0} → a or b ≡ true → (a ≡ true → P) → (b ≡ true → P) → P
unfolding ◌or◌
either {a = true} h f g = f refl
either {a = false} h f g = g h

pub neither : {a b : Bool} → a or b ≡ false → (a ≡ false) × (b ≡ false)
unfolding ◌or◌
neither {a = true} h = never h
neither {a = false} h = (refl, h)

pub follows : {a b : Bool} → a implies b ≡ true → a ≡ true → b ≡ true
unfolding ◌implies◌
follows {a = true} h e = h
follows {a = false} h e = never (sym e)

-- a test, by cases, with what it says
pub test : {P : Type 0} (b : Bool) → (b ≡ true → P) → (b ≡ false → P) → P
test true f g = f refl
test false f g = g refl

pub eqb_ne : (a b : ℕ) → eqb a b ≡ false → a ≢ b
eqb_ne a b e = eqb-false a b e

-- tests of numbers, read by omega as facts
pub ruleset tests = (arith, eqb-true, eqb_ne, leb-true, leb-false, ltb-true, ltb-false)

-- the way back: tests of numbers that `search` proves from the facts of the branches taken
pub ruleset branches = (rules, eq-eqb, ne_eqb, le-leb, lt-leb, lt-ltb, le-ltb)
