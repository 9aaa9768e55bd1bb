-- Wholeness is one thing, as a test and as facts. Assumes nothing.
use Prim.Native.Nat.{ℕ, ◌≤◌, ◌<◌}
use mathlib.Core.Path.{◌≡◌, refl}
use mathlib.Core.Bool.{Bool, true}
use lib.Dec.{eqb}
use native.Mathlib.Omega.{arith}
use borrow.Author.Tests.{le-leb, eq-eqb, lt-ltb}
use Rattle.choice.specs.Pick.{◌or◌, ◌implies◌}
use Rattle.choice.proofs.Tests.{join}
use Rattle.phases.specs.Phases.{has_successor}
use Rattle.record.specs.declared.Record.{Record}
use Rattle.tickets.specs.declared.Live.{Live}
use Rattle.tickets.specs.declared.Live.TheVariants.{None, Structure, Update, Rollback}
use Rattle.wholeness.specs.Whole.{whole, lengths_fit, counts_fit, staged_fits, live_fits}
use Rattle.demand_steps.proofs.Leaf.{Apart, Updates}
use Rattle.demand_steps.proofs.Facts.{Tick, Calm, Whole, by_case}
use Rattle.demand_steps.proofs.Facts.Calm.{on, off}
use Rattle.demand_steps.proofs.Testing.{ranges, right, not_yes, forward_test, back_test, turned_test}

pub left : {a : Bool} (b : Bool) → a ≡ true → a or b ≡ true
unfolding ◌or◌
left b h = rw h

pub successor_test : (p : ℕ) → p ≤ 13 → Apart p → has_successor p ≡ true
unfolding has_successor
successor_test p m x =
    by_case p 5 (λ (h : p < 5). left _ (left _ (join (le-leb 1 p (omega (arith, x))) (le-leb p 4 (omega arith))))) (λ (h : 5 ≤ p).
    by_case p 7 (λ (g : p < 7). left _ (right _ (eq-eqb p 6 (omega (arith, x))))) (λ (g : 7 ≤ p).
    right _ (join (le-leb 9 p (omega (arith, x))) (le-leb p 12 (omega (arith, x))))))

pub updates_test : (p : ℕ) → Updates p → eqb p 0 or eqb p 5 ≡ true
unfolding ◌or◌
updates_test p (Updates.flat e) = rw e
updates_test p (Updates.batch e) = rw e

tick_test : (l : Live) (s : ℕ) (v : Bool) (p n a k : ℕ) → p ≤ 13 → Tick l s p n a k v → live_fits l s v p n a k ≡ true
unfolding live_fits ◌or◌ ◌implies◌
tick_test None s v p n a k m x = refl
tick_test (Structure t) s v p n a k m x =
    join (join (join (join (eq-eqb _ _ x.number) (le-leb _ _ x.real)) (successor_test p m x.apart)) refl) refl
tick_test (Update t) s v p n a k m x =
    join (join (join (join (eq-eqb _ _ x.number) (le-leb _ _ x.real)) refl) (join (join (updates_test p x.place) (not_yes _ x.ahead)) (eq-eqb _ _ x.tried))) refl
tick_test (Rollback t) s v p n a k m x =
    join (join (join (join (eq-eqb _ _ x.number) (le-leb _ _ x.real)) refl) refl) (join x.behind (lt-ltb _ _ x.some))

calm_test : (s : Bool) (v c p n : ℕ) (l : Live) → Calm s v c p n l → staged_fits s v c p n l ≡ true
unfolding staged_fits ◌or◌ ◌implies◌
calm_test s v c p n l (on e h g) = rw e (join (join (lt-ltb _ _ h) (lt-ltb _ _ g)) refl)
calm_test s v c p n l (off e m k z q x) = rw (e, x) (join refl (join (join (eq-eqb _ _ z) (eq-eqb _ _ q)) refl))

pub whole_test : {r : Record} → Whole r → whole r ≡ true
unfolding whole lengths_fit counts_fit
whole_test {r} w =
    let x = ranges w.stage in
    let l = w.lengths in
    let s = w.size in
    join (join (join (join (join (join (join
    (join (join (le-leb _ _ l.accepted) (le-leb _ _ l.candidate)) (le-leb _ _ l.recovery))
    (join (join (join (le-leb _ _ s.few) (le-leb _ _ s.order)) (le-leb _ _ s.near)) (le-leb _ _ s.inside)))
    (calm_test _ _ _ _ _ _ w.calm))
    (le-leb _ _ x.bound))
    (forward_test _ _ x.ahead))
    (back_test _ _ x.bound x.behind))
    (turned_test _ _ _ _ _ (omega arith) x.turned))
    (tick_test _ _ _ _ _ _ _ x.bound w.ticket)
