-- The engine's tests by the rows of the table of phases: of what was taken, whose numbers are those of a whole record, each says what the
-- record's phase and counts say. Here p is the phase, f forward, b back, n entries, a applied, k attempted, v restoring. Assumes nothing.
use Prim.Native.Nat.{ℕ, ◌+◌, ◌-◌, ◌≤◌, ◌<◌}
use mathlib.Core.Path.{◌≡◌}
use mathlib.Core.Bool.{Bool, not}
use native.Mathlib.Omega.{arith}
use lib.Dec.{eqb, leb, ltb}
use borrow.Author.Tests.{lt-ltb, le-ltb, le-leb, lt-leb, eq-eqb, ne_eqb}
use Rattle.choice.specs.Pick.{pick, ◌and◌, ◌or◌}
use Rattle.phases.specs.Phases.{has_successor}
use Rattle.wholeness.proofs.Facts.{Counts}
use Rattle.demand_steps.proofs.Facts.{Stage, by_case}
use Rattle.demand_steps.proofs.Facts.Stage.{flat, flat_back, before, updating, after, undoing, backing}
use Rattle.demand_steps.proofs.Wholeness.{left}
use Rattle.demand_chains.proofs.Course.{Kind}
use Rattle.demand_chains.proofs.Course.Kind.{update_only, structural}
use Rattle.plain.specs.declared.Taken.{Taken}
use Rattle.plain.specs.Plain.{is_done, is_back, is_left, forward_phase, back_phase, phase_of, is_settling, is_updating}
use Rattle.plain_laws.proofs.Numbers.{Numbers, has, alike, not_over, is_over_lem, last}

pub record Row (t : Taken) (p k : ℕ) (v : Bool) : Type 0 where
  pub phase : phase_of t ≡ p
  pub settling : is_settling t ≡ has_successor p
  pub updating : is_updating t ≡ (eqb p 0 or eqb p 5) and not v
  pub behind : t.structural and t.turned and not (is_left t) ≡ leb 9 p
  pub left : is_left t ≡ ltb 0 k

module _ (t : Taken) {p f b n a k : ℕ} {v : Bool} (m : Numbers t p f b n a k v) (c : Counts n a k) where
  pub row : Stage p f b n a k v → Kind t.structural p → Row t p k v
  unfolding phase_of forward_phase back_phase is_settling is_updating is_done is_back is_left has_successor pick ◌and◌ ◌or◌
  row (flat x1 x2 x3 x4) (update_only s y) = let x = m.ahead x1 in
      record { phase = simp (s, x2); settling = simp (s, x2); updating = simp (s, x2, x1, m.turning); behind = simp (s, x2); left = simp (x.undone, x.started) }
  row (flat_back x1 x2 x3 x4 x5) (update_only s y) = let x = m.behind x1 in
      record { phase = simp (s, x2); settling = simp (s, x2); updating = simp (x2, x1, m.turning); behind = simp (s, x2); left = alike t.undone t.started 0 k (λ h. omega arith) (λ h. omega arith) }
  row (before x1 x2 x3 x4 x5 x6) (structural s y) = let x = m.ahead x1 in
      let few = lt-ltb t.done 4 (omega (arith, x.done, c)) in
      record {
        phase = simp (s, m.turning, x1, few) (omega (arith, x.done, c));
        settling = simp (s, m.turning, x1, few, has p x2 (omega arith) (λ e. omega arith) (λ e. omega arith) (λ e. omega arith));
        updating = simp (s, m.turning, x1, lt-leb 4 t.done (omega (arith, x.done, c)), ne_eqb p 0 (omega arith), ne_eqb p 5 (omega arith));
        behind = simp (s, m.turning, x1, lt-leb 9 p (omega arith));
        left = simp (x.undone, x.started);
      }
  row (updating x1 x2 x3 x4 x5) (structural s y) = let x = m.ahead x1 in
      let unfinished = not_over t m s x1 x2 x3 x5 in
      record {
        phase = simp (s, m.turning, x1, le-ltb t.done 4 (omega (arith, x.done)), unfinished, x2);
        settling = simp (s, m.turning, x1, le-ltb t.done 4 (omega (arith, x.done)), unfinished, x2);
        updating = simp (s, m.turning, x1, le-leb 4 t.done (omega (arith, x.done)), unfinished, x2);
        behind = simp (s, m.turning, x1, x2);
        left = simp (x.undone, x.started);
      }
  row (after x1 x2 x3 x4 x5 x6) (structural s y) = let x = m.ahead x1 in
      let many = le-ltb t.done 4 (omega (arith, x.done)) in
      let few = le-leb 4 t.done (omega (arith, x.done)) in
      let over = is_over_lem t m s x1 x2 x4 x6 in
      by_case p 7
      (λ (i : p < 7).
      let e : p ≡ 6 = omega arith in
      let one = ne_eqb t.done (5 + t.size) (λ j. omega (arith, x.done, x.size)) in
      record {
        phase = simp (s, m.turning, x1, many, over, one, e);
        settling = simp (s, m.turning, x1, many, over, one, e);
        updating = simp (s, m.turning, x1, few, over, e);
        behind = simp (s, m.turning, x1, e);
        left = simp (x.undone, x.started);
      })
      (λ (i : 7 ≤ p).
      let e : p ≡ 7 = omega arith in
      let all = eq-eqb t.done (5 + t.size) (omega (arith, x.done, x.size)) in
      record {
        phase = simp (s, m.turning, x1, many, over, all, e);
        settling = simp (s, m.turning, x1, many, over, all, e);
        updating = simp (s, m.turning, x1, few, over, e);
        behind = simp (s, m.turning, x1, e);
        left = simp (x.undone, x.started);
      })
  row (undoing x1 x2 x3 x4 x5 x6 x7) (structural s y) = let x = m.behind x1 in
      let some = lt-ltb t.undone t.started (omega arith) in
      record {
        phase = simp (s, m.turning, x1, some, x2);
        settling = simp (s, m.turning, x1, some, x2);
        updating = simp (m.turning, x1, x2);
        behind = simp (s, m.turning, x1, some, x2);
        left = simp (some, lt-ltb 0 k (omega arith));
      }
  row (backing x1 x2 x3 x4 x5 x6 x7) (structural s y) = let x = m.behind x1 in
      let all = le-ltb t.undone t.started (omega arith) in
      record {
        phase = simp (s, m.turning, x1, all) (omega arith);
        settling = simp (s, m.turning, x1, all) (last t m x2 x3 x5 x6 x);
        updating = simp (m.turning, x1, ne_eqb p 0 (omega arith), ne_eqb p 5 (omega arith));
        behind = simp (s, m.turning, x1, all, le-leb 9 p x2);
        left = simp (all, le-ltb 0 k (omega arith));
      }
  row (flat x1 x2 x3 x4) (structural s y) = absurd (omega arith)
  row (flat_back x1 x2 x3 x4 x5) (structural s y) = absurd (omega arith)
  row (before x1 x2 x3 x4 x5 x6) (update_only s y) = absurd (omega arith)
  row (updating x1 x2 x3 x4 x5) (update_only s y) = absurd (omega arith)
  row (after x1 x2 x3 x4 x5 x6) (update_only s y) = absurd (omega arith)
  row (undoing x1 x2 x3 x4 x5 x6 x7) (update_only s y) = absurd (omega arith)
  row (backing x1 x2 x3 x4 x5 x6 x7) (update_only s y) = absurd (omega arith)
