-- How far a transaction has come: the Done reports that the watcher noted are the first of the plan, as many as the record's
-- counts say. Here s is structural, z the size, g the updates started. Assumes nothing.
use Prim.Native.Nat.{ℕ, suc, ◌+◌, ◌-◌, ◌≤◌, ◌<◌, max}
use mathlib.Core.Path.{◌≡◌, refl, sym, ◌∙◌, ap}
use mathlib.Core.Bool.{Bool, true, false}
use mathlib.Core.List.{List, [], ◌∷◌, ◌++◌}
use native.Mathlib.Omega.{arith}
use borrow.Author.Tests.{lt-ltb, le-ltb}
use Rattle.choice.specs.Pick.{pick}
use Rattle.tickets.specs.declared.Live.{Live}
use Rattle.tickets.specs.declared.Live.TheVariants.{None, Structure, Update, Rollback}
use Rattle.demand_steps.specs.Knowing.{Item}
use Rattle.demand_steps.specs.Knowing.Item.{settle, apply, undo}
use Rattle.demand_chains.specs.Plans.{plan_at, back_at, firsts}
use Rattle.demand_steps.proofs.Facts.{tests}
use Rattle.demand_steps.proofs.Moves.{Batch, Along}

-- update-only: phase 0 throughout. Structural: never phase 0
pub data Kind (s : Bool) (p : ℕ) : Type 0 where
  update_only : s ≡ false → p ≡ 0 → Kind s p
  structural : s ≡ true → 1 ≤ p → Kind s p

-- the live ticket is the last that was given, and what it is for
abbrev pub Last : Live → ℕ → Item → ℕ → ℕ → ℕ → Type 0
Last None t i p a n = Unit {0}
Last (Structure l) t i p a n = (t ≡ l) × (i ≡ settle p)
Last (Update l) t i p a n = (t ≡ l) × (i ≡ apply a)
Last (Rollback l) t i p a n = (t ≡ l) × (i ≡ undo (n - 1))

pub data Course (s : Bool) (z g : ℕ) (done undone : List Item) (f b n a k : ℕ) (v : Bool) : Type 0 where
  ahead : v ≡ false → n ≡ z → k ≡ g → done ≡ firsts (plan_at s z) (f + a) → undone ≡ [] → Course s z g done undone f b n a k v
  behind : v ≡ true → (u : ℕ) → u + n ≡ g + b → undone ≡ firsts (back_at g) u → Course s z g done undone f b n a k v

-- one more of the plan
one_more : (plan : ℕ → Item) {xs : List Item} {x : Item} (m m' : ℕ) → xs ≡ firsts plan m → x ≡ plan m → m' ≡ suc m → xs ++ (x ∷ []) ≡ firsts plan m'
one_more plan m m' p q e = rw (e, p, q)

-- the plan, place by place
plan_flat : (s : Bool) (n i : ℕ) → s ≡ false → plan_at s n i ≡ apply i
plan_flat s n i e = rw e

plan_up : (s : Bool) (n i p : ℕ) → s ≡ true → i + 1 ≡ p → p ≤ 4 → plan_at s n i ≡ settle p
unfolding pick
plan_up s n i p e h l = rw (e, lt-ltb i 4 (omega arith)) (ap settle (omega arith))

plan_middle : (s : Bool) (n i a : ℕ) → s ≡ true → i ≡ 4 + a → a < n → plan_at s n i ≡ apply a
unfolding pick
plan_middle s n i a e h l = rw (e, le-ltb i 4 (omega arith), lt-ltb i (4 + n) (omega arith)) (ap apply (omega arith))

plan_adopt : (s : Bool) (n i : ℕ) → s ≡ true → i ≡ 4 + n → plan_at s n i ≡ settle 6
unfolding pick
plan_adopt s n i e h = rw (e, le-ltb i 4 (omega arith), le-ltb i (4 + n) (omega arith))

back_undo : (k n i : ℕ) → i + n ≡ k → 0 < n → back_at k i ≡ undo (n - 1)
unfolding pick
back_undo k n i h l = rw (lt-ltb i k (omega arith)) (ap undo (omega arith))

back_settle : (k i p : ℕ) → i + 9 ≡ k + p → 9 ≤ p → back_at k i ≡ settle p
unfolding pick
back_settle k i p h l = rw (le-ltb i k (omega arith)) (ap settle (omega arith))

-- how the course goes on
module _ {s : Bool} {z g f b n a k : ℕ} {d u : List Item} {v : Bool} where
  pub started : Course s z g d u f b n a k v → v ≡ false → k ≤ a + 1 → Course s z (max g (a + 1)) d u f b n a (a + 1) v
  started (ahead e x y p q) h o = ahead e x (omega arith) p q
  started (behind e m x y) h o = absurd (omega tests)

  pub turn : Course s z g d u f b n a k v → b ≡ 0 → (v ≡ true → k ≡ n) → Course s z g d u f b k a k true
  turn (ahead e x y p q) h i = behind refl 0 (omega arith) q
  turn (behind e m x y) h i = behind refl m (omega (arith, i e)) y

  forth : {f' a' : ℕ} {i : Item} → Course s z g d u f b n a k v → v ≡ false → (n ≡ z → i ≡ plan_at s z (f + a)) → f' + a' ≡ suc (f + a) → Course s z g (d ++ (i ∷ [])) u f' b n a' k v
  forth (ahead e x y p q) h j o = ahead e x y (one_more (plan_at s z) (f + a) _ p (j x) o) q
  forth (behind e m x y) h j o = absurd (omega tests)

  away : {b' n' a' k' : ℕ} {i : Item} → Course s z g d u f b n a k v → v ≡ true → ((m : ℕ) → m + n ≡ g + b → i ≡ back_at g m) → n' + b + 1 ≡ n + b' → Course s z g d (u ++ (i ∷ [])) f b' n' a' k' v
  away (ahead e x y p q) h j o = absurd (omega tests)
  away (behind e m x y) h j o = behind e (suc m) (omega arith) (one_more (back_at g) m (suc m) y (j m x) refl)

  pub lower : {a' k' : ℕ} {i : Item} → Course s z g d u f b n a k v → v ≡ true → b ≡ 0 → 0 < n → i ≡ undo (n - 1) → Course s z g d (u ++ (i ∷ [])) f b (n - 1) a' k' v
  lower c h o j q = away c h (λ m x. q ∙ sym (back_undo g n m (omega arith) j)) (omega arith)

module _ {s : Bool} {z g p f b n a k : ℕ} {d u : List Item} {v : Bool} {i : Item} where
  pub up : Along p f b n a k v → Kind s p → Course s z g d u f b n a k v → p ≤ 6 → a ≤ k → i ≡ settle p → Course s z g (d ++ (i ∷ [])) u (f + 1) b n a k v
  up (Along.start x1 x2 x3 x4 x5 x6) (structural e y) c h o q = forth c x1 (λ j. q ∙ sym (plan_up s z (f + a) p e (omega arith) x3)) (omega arith)
  up (Along.close x1 x2 x3 x4 x5) (structural e y) c h o q = forth c x1 (λ j. q ∙ ap settle x2 ∙ sym (plan_adopt s z (f + a) e (omega arith))) (omega arith)
  up (Along.back x1 x2 x3 x4 x5 x6 x7) (structural e y) c h o q = absurd (omega arith)
  up (Along.start x1 x2 x3 x4 x5 x6) (update_only e y) c h o q = absurd (omega arith)
  up (Along.close x1 x2 x3 x4 x5) (update_only e y) c h o q = absurd (omega arith)
  up (Along.back x1 x2 x3 x4 x5 x6 x7) (update_only e y) c h o q = absurd (omega arith)

  pub down : Along p f b n a k v → Course s z g d u f b n a k v → 6 < p → i ≡ settle p → Course s z g d (u ++ (i ∷ [])) f (b + 1) n a k v
  down (Along.back x1 x2 x3 x4 x5 x6 x7) c h q = away c x1 (λ m j. q ∙ sym (back_settle g m p (omega arith) x2)) (omega arith)
  down (Along.start x1 x2 x3 x4 x5 x6) c h q = absurd (omega arith)
  down (Along.close x1 x2 x3 x4 x5) c h q = absurd (omega arith)

  pub raise : Batch p f b → Kind s p → Course s z g d u f b n a k v → v ≡ false → a < n → i ≡ apply a → Course s z g (d ++ (i ∷ [])) u f b n (a + 1) k v
  raise (Batch.plain x1 x2 x3) (update_only e y) c h o q = forth c h (λ j. q ∙ ap apply (omega arith) ∙ sym (plan_flat s z (f + a) e)) (omega arith)
  raise (Batch.inside x1 x2 x3) (structural e y) c h o q = forth c h (λ j. q ∙ sym (plan_middle s z (f + a) a e (omega arith) (omega arith))) (omega arith)
  raise (Batch.plain x1 x2 x3) (structural e y) c h o q = absurd (omega arith)
  raise (Batch.inside x1 x2 x3) (update_only e y) c h o q = absurd (omega arith)

-- the kind stays while the phase moves
pub same_kind : {s : Bool} {p q : ℕ} → Kind s p → (p ≡ 0 → q ≡ 0) → (1 ≤ p → 1 ≤ q) → Kind s q
same_kind (update_only e z) f j = update_only e (f z)
same_kind (structural e z) f j = structural e (j z)
