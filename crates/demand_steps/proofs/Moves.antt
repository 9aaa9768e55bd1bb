-- How a step moves a record from one row of the table of phases to another. Assumes nothing.
use Prim.Native.Nat.{ℕ, ◌+◌, ◌≤◌, ◌<◌}
use mathlib.Core.Path.{◌≡◌, refl}
use mathlib.Core.Bool.{Bool, true, false}
use mathlib.Core.Logic.{◌≢◌}
use lib.Dec.{eqb, leb}
use native.Mathlib.Omega.{arith}
use borrow.Author.Tests.{ne_eqb, eq-eqb, le-leb, lt-leb}
use Rattle.choice.specs.Pick.{pick, ◌and◌}
use Rattle.phases.specs.Phases.{has_successor, successor}
use Rattle.record.specs.Fields.{with_place}
use Rattle.record.specs.declared.Record.{Record}
use Rattle.step_structure.specs.Structure.{onward, advanced}
use Rattle.demand_steps.proofs.Leaf.{Apart, Updates, Goes}
use Rattle.demand_steps.proofs.Leaf.Goes.{last, more}
use Rattle.demand_steps.proofs.Facts.{Stage, tests, by_case}
use Rattle.demand_steps.proofs.Facts.Stage.{flat, flat_back, before, updating, after, undoing, backing}

-- a number that a test of the phase picks
pub record Choice (p x u v q : ℕ) : Type 0 where
  pub is : p ≡ x → q ≡ u
  pub isnt : p ≢ x → q ≡ v

pub choice : (p x u v : ℕ) → Choice p x u v (pick (eqb p x) u v)
unfolding pick
choice p x u v = record { is = λ e. rw (eq-eqb p x e); isnt = λ e. rw (ne_eqb p x e) }

-- "a phase 1 to 7 becomes" to
pub record Turn (p to q : ℕ) : Type 0 where
  pub goes : 1 ≤ p → p ≤ 7 → q ≡ to
  pub flat : p ≡ 0 → q ≡ 0
  pub stays : 8 ≤ p → q ≡ p

pub turn : (p to : ℕ) → Turn p to (pick (leb 1 p and leb p 7) to p)
unfolding pick ◌and◌
turn p to = record { goes = λ h g. rw (le-leb 1 p h, le-leb p 7 g); flat = λ e. rw e; stays = λ h. simp (le-leb 1 p (omega arith), lt-leb p 7 (omega arith)) }

-- "Done goes to the successor, raises forward (phases 1 to 6) or back (9 to 12)"
module _ (r : Record) (s : has_successor r.phase.number ≡ true) where
  pub goes_up : r.phase.number ≤ 6 → advanced r ≡ with_place (r.phase.number + 1) (r.forward + 1) r.back r
  unfolding advanced onward successor pick
  goes_up h = simp (s, le-leb r.phase.number 6 h)

  pub goes_down : 6 < r.phase.number → advanced r ≡ with_place (r.phase.number + 1) r.forward (r.back + 1) r
  unfolding advanced onward successor pick
  goes_down h = simp (s, lt-leb r.phase.number 6 h)

-- The rows that a step can stand in: each is read off once.
pub data Batch (p f b : ℕ) : Type 0 where
  plain : p ≡ 0 → f ≡ 0 → b ≡ 0 → Batch p f b
  inside : p ≡ 5 → f ≡ 4 → b ≡ 0 → Batch p f b

pub data Undo (p f b n k : ℕ) : Type 0 where
  plain : p ≡ 0 → f ≡ 0 → b ≡ 0 → k ≡ n → Undo p f b n k
  inside : p ≡ 8 → 4 ≤ f → f ≤ 5 → b ≡ 0 → k ≡ n → Undo p f b n k

pub data Along (p f b n a k : ℕ) (v : Bool) : Type 0 where
  start : v ≡ false → 1 ≤ p → p ≤ 4 → f + 1 ≡ p → b ≡ 0 → k ≡ 0 → Along p f b n a k v
  close : v ≡ false → p ≡ 6 → f ≡ 4 → b ≡ 0 → a ≡ n → Along p f b n a k v
  back : v ≡ true → 9 ≤ p → p ≤ 12 → f ≤ 5 → b + 9 ≡ p → n ≡ 0 → k ≡ n → Along p f b n a k v

module _ {p f b n a k : ℕ} {v : Bool} where
  pub in_batch : Stage p f b n a k v → Updates p → v ≡ false → Batch p f b
  in_batch (flat x1 x2 x3 x4) u e = plain x2 x3 x4
  in_batch (updating x1 x2 x3 x4 x5) u e = inside x2 x3 x4
  in_batch (flat_back x1 x2 x3 x4 x5) u e = absurd (omega tests)
  in_batch (before x1 x2 x3 x4 x5 x6) (Updates.flat x) e = absurd (omega tests)
  in_batch (before x1 x2 x3 x4 x5 x6) (Updates.batch x) e = absurd (omega tests)
  in_batch (after x1 x2 x3 x4 x5 x6) (Updates.flat x) e = absurd (omega tests)
  in_batch (after x1 x2 x3 x4 x5 x6) (Updates.batch x) e = absurd (omega tests)
  in_batch (undoing x1 x2 x3 x4 x5 x6 x7) u e = absurd (omega tests)
  in_batch (backing x1 x2 x3 x4 x5 x6 x7) u e = absurd (omega tests)

  pub in_undo : Stage p f b n a k v → v ≡ true → 0 < n → Undo p f b n k
  in_undo (flat x1 x2 x3 x4) e h = absurd (omega tests)
  in_undo (flat_back x1 x2 x3 x4 x5) e h = plain x2 x3 x4 x5
  in_undo (before x1 x2 x3 x4 x5 x6) e h = absurd (omega tests)
  in_undo (updating x1 x2 x3 x4 x5) e h = absurd (omega tests)
  in_undo (after x1 x2 x3 x4 x5 x6) e h = absurd (omega tests)
  in_undo (undoing x1 x2 x3 x4 x5 x6 x7) e h = inside x2 x3 x4 x5 x7
  in_undo (backing x1 x2 x3 x4 x5 x6 x7) e h = absurd (omega tests)

  pub in_along : Stage p f b n a k v → Apart p → Along p f b n a k v
  in_along (before x1 x2 x3 x4 x5 x6) u = start x1 x2 x3 x4 x5 x6
  in_along (after x1 x2 x3 x4 x5 x6) u = close x1 (omega (tests, u)) (omega (tests, u)) x5 x6
  in_along (backing x1 x2 x3 x4 x5 x6 x7) u = back x1 x2 (omega (tests, u)) x4 x5 x6 x7
  in_along (flat x1 x2 x3 x4) u = absurd (omega (tests, u))
  in_along (flat_back x1 x2 x3 x4 x5) u = absurd (omega (tests, u))
  in_along (updating x1 x2 x3 x4 x5) u = absurd (omega (tests, u))
  in_along (undoing x1 x2 x3 x4 x5 x6 x7) u = absurd (omega (tests, u))

  -- how a step moves the place
  pub raised : {q : ℕ} → Goes a n 5 6 p q → Batch p f b → v ≡ false → a ≤ n → Stage q f b n a k v
  raised (last y) (plain x2 x3 x4) e h = let z = (choice p 5 6 p).isnt (omega arith) in flat e (omega arith) x3 x4
  raised (last y) (inside x2 x3 x4) e h = let z = (choice p 5 6 p).is x2 in after e (omega arith) (omega arith) (omega arith) x4 y
  raised (more y) (plain x2 x3 x4) e h = flat e x2 x3 x4
  raised (more y) (inside x2 x3 x4) e h = updating e x2 x3 x4 (omega arith)

  pub turned_none : {q : ℕ} → Stage p f b n a k v → Turn p 9 q → p < 9 → k ≡ 0 → Stage q f b k a k true
  turned_none (flat x1 x2 x3 x4) t h e = flat_back refl (t.flat x2) x3 x4 refl
  turned_none (flat_back x1 x2 x3 x4 x5) t h e = flat_back refl (t.flat x2) x3 x4 refl
  turned_none (before x1 x2 x3 x4 x5 x6) t h e = let z = t.goes x2 (omega arith) in backing refl (omega arith) (omega arith) (omega arith) (omega arith) e refl
  turned_none (updating x1 x2 x3 x4 x5) t h e = let z = t.goes (omega arith) (omega arith) in backing refl (omega arith) (omega arith) (omega arith) (omega arith) e refl
  turned_none (after x1 x2 x3 x4 x5 x6) t h e = let z = t.goes (omega arith) x3 in backing refl (omega arith) (omega arith) (omega arith) (omega arith) e refl
  turned_none (undoing x1 x2 x3 x4 x5 x6 x7) t h e = absurd (omega arith)
  turned_none (backing x1 x2 x3 x4 x5 x6 x7) t h e = absurd (omega arith)

  pub turned_some : {q : ℕ} → Stage p f b n a k v → Turn p 8 q → p < 9 → 0 < k → Stage q f b k a k true
  turned_some (flat x1 x2 x3 x4) t h e = flat_back refl (t.flat x2) x3 x4 refl
  turned_some (flat_back x1 x2 x3 x4 x5) t h e = flat_back refl (t.flat x2) x3 x4 refl
  turned_some (before x1 x2 x3 x4 x5 x6) t h e = absurd (omega arith)
  turned_some (updating x1 x2 x3 x4 x5) t h e = undoing refl (t.goes (omega arith) (omega arith)) (omega arith) (omega arith) x4 e refl
  turned_some (after x1 x2 x3 x4 x5 x6) t h e = undoing refl (t.goes (omega arith) x3) (omega arith) (omega arith) x5 e refl
  turned_some (undoing x1 x2 x3 x4 x5 x6 x7) t h e = let z = t.stays (omega arith) in undoing refl (omega arith) x3 x4 x5 e refl
  turned_some (backing x1 x2 x3 x4 x5 x6 x7) t h e = absurd (omega arith)

  pub up : Along p f b n a k v → p ≤ 6 → a ≤ k → Stage (p + 1) (f + 1) b n a k v
  up (start x1 x2 x3 x4 x5 x6) h o = by_case p 4
      (λ (y : p < 4). before x1 (omega arith) (omega arith) (omega arith) x5 x6)
      (λ (y : 4 ≤ p). updating x1 (omega arith) (omega arith) x5 (omega arith))
  up (close x1 x2 x3 x4 x5) h o = after x1 (omega arith) (omega arith) (omega arith) x4 x5
  up (back x1 x2 x3 x4 x5 x6 x7) h o = absurd (omega arith)

  pub down : Along p f b n a k v → 6 < p → Stage (p + 1) f (b + 1) n a k v
  down (start x1 x2 x3 x4 x5 x6) h = absurd (omega arith)
  down (close x1 x2 x3 x4 x5) h = absurd (omega arith)
  down (back x1 x2 x3 x4 x5 x6 x7) h = backing x1 (omega arith) (omega arith) x4 (omega arith) x6 x7

pub lowered : {p f b n k q m i j : ℕ} {v : Bool} → Goes m 0 8 9 p q → Undo p f b n k → v ≡ true → j ≡ m → Stage q f b m i j v
lowered {p} (last y) (plain x2 x3 x4 x5) e x = let z = (choice p 8 9 p).isnt (omega arith) in flat_back e (omega arith) x3 x4 x
lowered {p} (last y) (inside x2 x3 x4 x5 x6) e x = let z = (choice p 8 9 p).is x2 in backing e (omega arith) (omega arith) x4 (omega arith) y x
lowered (more y) (plain x2 x3 x4 x5) e x = flat_back e x2 x3 x4 x
lowered (more y) (inside x2 x3 x4 x5 x6) e x = undoing e x2 x3 x4 x5 (omega arith) x

pub all_tried : {p f b n k : ℕ} → Undo p f b n k → k ≡ n
all_tried (plain x2 x3 x4 x5) = x5
all_tried (inside x2 x3 x4 x5 x6) = x6
