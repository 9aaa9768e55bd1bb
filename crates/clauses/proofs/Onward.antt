-- A structure report that is taken goes on by one phase; and which phases have a successor. Assumes nothing.
use Prim.Native.Nat.{ℕ, ◌+◌, ◌≤◌, ◌<◌}
use mathlib.Core.{Path.◌≡◌, Path.refl, Path.sym, Path.◌∙◌, Path.ap, Bool.Bool, Bool.true, Bool.false, Logic.◌≢◌}
use native.Mathlib.Omega.{arith}
use lib.Dec.{eqb}
use borrow.Author.Tests.{eqb-true}
use Rattle.choice.specs.Pick.{pick, ◌or◌}
use Rattle.choice.proofs.Tests.{either, neither}
use Rattle.std.specs.Prelude.{Some}
use Rattle.phases.specs.{Phases.has_successor, Phases.successor, Phases.boundary}
use Rattle.record.specs.{Fields.spent, Fields.with_place, declared.Record.Record, Given.standing}
use Rattle.tickets.specs.{Live.is_live, declared.Live.Live}
use Rattle.tickets.specs.Live as Tickets
use Rattle.wholeness.specs.Whole.{whole}
use Rattle.step_structure.specs.Structure.{advanced, storing}
use Rattle.demand_steps.specs.Typed.{Typed}
use Rattle.demand_steps.proofs.{Leaf.Apart, Facts.Calm, Facts.tests, Facts.by_case, Facts.Calm.on, Facts.Calm.off, Reading.whole_facts, Reading.apart_of, Testing.ranges}
use Rattle.demand_steps.proofs.{Testing.right, Wholeness.left, Wholeness.successor_test, Tickets.on_structure, Moves.goes_up, Moves.goes_down}
use Rattle.clauses.specs.Structure.{Stepping, Advances}
use Rattle.clauses.proofs.Splitting.{nope}

-- a phase is staged
pub calm_staged : {s : Bool} {v c p n : ℕ} {l : Live} → Calm s v c p n l → p ≢ 0 → s ≡ true
calm_staged (on e h g) n = e
calm_staged (off e h g z q l) n = absurd (n z)

-- 0, 5 and 8 have no successor
pub no_successor : {P : Type 0} (p : ℕ) → eqb p 0 or eqb p 5 or eqb p 8 ≡ true → has_successor p ≡ true → P
no_successor p e s =
    let y = apart_of p s in
    either e (λ i. either i (λ (j : eqb p 0 ≡ true). absurd (omega (tests, y.not0))) (λ (j : eqb p 5 ≡ true). absurd (omega (tests, y.not5))))
    (λ (i : eqb p 8 ≡ true). absurd (omega (tests, y.not8)))

-- 7 and 13 are boundaries
pub at_boundary : (p : ℕ) → eqb p 7 or eqb p 13 ≡ true → boundary p ≡ true
unfolding boundary
at_boundary p e = either e (λ i. left _ (right _ i)) (λ i. right _ i)

-- nor have these
pub ended : {P : Type 0} (p : ℕ) → eqb p 7 or eqb p 13 ≡ true → has_successor p ≡ true → P
ended p e s =
    let y = apart_of p s in
    either e (λ (j : eqb p 7 ≡ true). absurd (omega (tests, y.not7))) (λ (j : eqb p 13 ≡ true). absurd (omega (tests, y.not13)))

-- and none is both
pub exclusive : {P : Type 0} (p : ℕ) → eqb p 0 or eqb p 5 or eqb p 8 ≡ true → eqb p 7 or eqb p 13 ≡ true → P
unfolding ◌or◌
exclusive p e i = either {a = eqb p 7} {b = eqb p 13} i (λ j. nope (rw (eqb-true p 7 j) at e)) (λ j. nope (rw (eqb-true p 13 j) at e))

-- any other phase has one
pub has_one : (p : ℕ) → p ≤ 13 → eqb p 0 or eqb p 5 or eqb p 8 ≡ false → eqb p 7 or eqb p 13 ≡ false → has_successor p ≡ true
has_one p m e d =
    let x = neither e in
    let y = neither x.0 in
    let z = neither d in
    successor_test p m (omega (tests, y, z, x.1))

module _ (r : Record) (m : Typed (standing r)) (w : whole r ≡ true) (t : ℕ) (l : is_live Tickets.structure t r.live ≡ true) where
  apart : Apart r.phase.number
  apart = (on_structure (whole_facts r m w) l).apart

  pub succeeds : has_successor r.phase.number ≡ true
  succeeds = successor_test _ (ranges (whole_facts r m w).stage).bound apart

  -- the two counts, by the phase
  placed : (c o f b : ℕ) → (r.phase.number ≤ 6 → (f ≡ r.forward + 1) × (b ≡ r.back)) → (6 < r.phase.number → (f ≡ r.forward) × (b ≡ r.back + 1)) →
      Advances r (with_place (r.phase.number + 1) f b (spent (storing c o r)))
  placed c o f b up down = record {
    phase = refl;
    forward = λ i. (up i).0;
    forward_stays = λ i. (down i).0;
    back = λ i. (down i).1;
    back_stays = λ i. (up i).1;
    spent = refl;
    batch = search;
    staged = refl;
    accepted = refl;
    version = refl;
  }

  pub onwards : (c o : ℕ) → Advances r (advanced (spent (storing c o r)))
  onwards c o = let q = spent (storing c o r) in
      by_case 6 r.phase.number (λ (j : 6 < r.phase.number). rw (goes_down q succeeds j) (placed c o _ _ (λ i. absurd (omega arith)) (λ i. (refl, refl))))
      (λ (j : r.phase.number ≤ 6). rw (goes_up q succeeds j) (placed c o _ _ (λ i. (refl, refl)) (λ i. absurd (omega arith))))

  pub stepping_on : {s : Record} → Advances r s → Stepping r s
  unfolding successor pick
  stepping_on x =
      let b = calm_staged (whole_facts r m w).calm apart.not0 in
      record {
        c176 = λ n. apart.not0;
        c177 = λ n. rw succeeds (ap (λ (k : ℕ). Some (record { number = k })) (sym x.phase));
        c178 = λ n. b;
        c179 = λ n. x.staged ∙ b;
        c181 = λ n. apart.not0;
        c182 = λ n. by_case 6 r.phase.number (λ i. absurd (n (x.forward_stays i))) x.forward;
        c183 = λ n. omega (arith, x.phase);
        c184 = λ n. apart.not0;
        c185 = λ n. by_case 6 r.phase.number x.back (λ i. absurd (n (x.back_stays i)));
        c186 = λ n. omega (arith, x.phase);
      }
