-- A whole record as facts of its fields: the table of phases as seven rows with linear ranges. Here n are the entries, a applied,
-- k attempted, p the phase, f forward, b back, v restoring. Assumes nothing.
use Prim.Native.Nat.{ℕ, ◌+◌, ◌≤◌, ◌<◌, max}
use mathlib.Core.Path.{◌≡◌, refl, subst}
use mathlib.Core.Bool.{Bool, true, false}
use lib.Dec.{ltb}
use native.Mathlib.Omega.{arith}
use borrow.Author.Tests.{ltb-true, ltb-false}
use Rattle.choice.proofs.Tests as T
use Rattle.record.specs.Fields.{top}
use Rattle.record.specs.declared.Record.{Record}
use Rattle.tickets.specs.declared.Live.{Live}
use Rattle.tickets.specs.declared.Live.TheVariants.{None, Structure, Update, Rollback}
use Rattle.wholeness.proofs.Facts.{Counts}
use Rattle.demand_steps.proofs.Leaf.{Apart, Updates, Lengths}

-- a Bool as a number, so that omega sees that it is not both
abbrev pub bit : Bool → ℕ
bit true = 1
bit false = 0

pub bit_true : (b : Bool) → b ≡ true → bit b ≡ 1
bit_true true e = refl
bit_true false e = subst (λ (x : Bool). bit false ≡ bit x) e refl

pub bit_false : (b : Bool) → b ≡ false → bit b ≡ 0
bit_false true e = subst (λ (x : Bool). bit true ≡ bit x) e refl
bit_false false e = refl

pub true_bit : (b : Bool) → bit b ≡ 1 → b ≡ true
true_bit true e = refl
true_bit false e = absurd (omega arith)

pub false_bit : (b : Bool) → bit b ≡ 0 → b ≡ false
false_bit true e = absurd (omega arith)
false_bit false e = refl

-- tests that omega reads as facts, and Bools that it proves
pub ruleset tests = (T.tests, bit_true, bit_false, true_bit, false_bit)

-- x < y or y ≤ x, to split on
pub by_case : (x y : ℕ) {P : Type 0} → (x < y → P) → (y ≤ x → P) → P
by_case x y f g = T.test (ltb x y) (λ e. f (ltb-true x y e)) (λ e. g (ltb-false x y e))

-- forward and back, by ranges of phases, and the rules on restoring
pub record Ahead (p f : ℕ) : Type 0 where
  pub start : p ≡ 0 → f ≡ 0
  pub early : 1 ≤ p → p ≤ 4 → f + 1 ≡ p
  pub middle : p ≡ 5 → f ≡ 4
  pub late : 6 ≤ p → p ≤ 7 → f + 2 ≡ p
  pub turning : p ≡ 8 → 4 ≤ f
  pub bound : f ≤ 5

pub record Behind (p b : ℕ) : Type 0 where
  pub early : p < 9 → b ≡ 0
  pub late : 9 ≤ p → b + 9 ≡ p

pub record Turned (v : Bool) (p n a k : ℕ) : Type 0 where
  pub all : v ≡ true → k ≡ n
  pub ahead : 1 ≤ p → p ≤ 7 → v ≡ false
  pub untried : 1 ≤ p → p ≤ 4 → k ≡ 0
  pub some : p ≡ 5 → a ≤ n → a < max n 1
  pub applied : 6 ≤ p → p ≤ 7 → a ≡ n
  pub behind : 8 ≤ p → v ≡ true
  pub left : p ≡ 8 → 0 < n
  pub empty : 9 ≤ p → n ≡ 0

-- all three together, by the phase: two ways at phase 0, before, in and after the updates, and two ways back
pub data Stage (p f b n a k : ℕ) (v : Bool) : Type 0 where
  flat : v ≡ false → p ≡ 0 → f ≡ 0 → b ≡ 0 → Stage p f b n a k v
  flat_back : v ≡ true → p ≡ 0 → f ≡ 0 → b ≡ 0 → k ≡ n → Stage p f b n a k v
  before : v ≡ false → 1 ≤ p → p ≤ 4 → f + 1 ≡ p → b ≡ 0 → k ≡ 0 → Stage p f b n a k v
  updating : v ≡ false → p ≡ 5 → f ≡ 4 → b ≡ 0 → a < max n 1 → Stage p f b n a k v
  after : v ≡ false → 6 ≤ p → p ≤ 7 → f + 2 ≡ p → b ≡ 0 → a ≡ n → Stage p f b n a k v
  undoing : v ≡ true → p ≡ 8 → 4 ≤ f → f ≤ 5 → b ≡ 0 → 0 < n → k ≡ n → Stage p f b n a k v
  backing : v ≡ true → 9 ≤ p → p ≤ 13 → f ≤ 5 → b + 9 ≡ p → n ≡ 0 → k ≡ n → Stage p f b n a k v

pub record OnStructure (t s p : ℕ) : Type 0 where
  pub number : t ≡ s
  pub real : 1 ≤ s
  pub apart : Apart p

pub record OnUpdate (t s p a k : ℕ) (v : Bool) : Type 0 where
  pub number : t ≡ s
  pub real : 1 ≤ s
  pub place : Updates p
  pub ahead : v ≡ false
  pub tried : k ≡ a + 1

pub record OnRollback (t s n : ℕ) (v : Bool) : Type 0 where
  pub number : t ≡ s
  pub real : 1 ≤ s
  pub behind : v ≡ true
  pub some : 0 < n

abbrev pub Tick : Live → ℕ → ℕ → ℕ → ℕ → ℕ → Bool → Type 0
Tick None s p n a k v = Unit {0}
Tick (Structure t) s p n a k v = OnStructure t s p
Tick (Update t) s p n a k v = OnUpdate t s p a k v
Tick (Rollback t) s p n a k v = OnRollback t s n v

pub data Calm (s : Bool) (v c p n : ℕ) (l : Live) : Type 0 where
  on : s ≡ true → v < top → c < top → Calm s v c p n l
  off : s ≡ false → v ≤ top → c ≤ top → p ≡ 0 → n ≡ 0 → l ≡ None → Calm s v c p n l

pub record Whole (r : Record) : Type 0 where
  pub lengths : Lengths r.accepted r.candidate r.recovery
  pub size : Counts r.entries r.applied r.attempted
  pub stage : Stage r.phase.number r.forward r.back r.entries r.applied r.attempted r.restoring
  pub ticket : Tick r.live r.serial r.phase.number r.entries r.applied r.attempted r.restoring
  pub calm : Calm r.staged r.revision r.replacements r.phase.number r.entries r.live
