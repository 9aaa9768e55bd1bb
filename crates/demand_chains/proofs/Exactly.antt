-- Commit and recovery succeed exactly when the watcher has counted all of the plan. Assumes nothing.
use Prim.Native.Nat.{ℕ, zero, suc, ◌+◌, ◌≤◌, ◌<◌}
use mathlib.Core.Path.{◌≡◌, refl, sym, ◌∙◌, ap}
use mathlib.Core.Bool.{Bool, true, false, not, ◌&&◌, ◌||◌}
use native.Mathlib.Omega.{arith}
use native.Mathlib.Nat.{zero-add}
use lib.Dec.{eqb, ltb}
use lib.ListN.{length, length-append}
use borrow.Author.Tests.{eq-eqb, ne_eqb, lt-ltb, le-ltb}
use Rattle.choice.specs.Pick.{pick, ◌and◌, ◌or◌}
use Rattle.answers.specs.Classes.{successful}
use Rattle.record.specs.Answers.{Told, refuse}
use Rattle.record.specs.declared.Record.{Record}
use Rattle.answers.specs.declared.Refusal.TheVariants.{Idle, NotReady}
use Rattle.completeness.specs.Complete.{complete}
use Rattle.step_ends.specs.Ending.{commit_own}
use Rattle.step_recoveries.specs.Recovering.{unrestored, recover_retained_own}
use Rattle.calls.specs.Calls.{step}
use Rattle.calls.specs.Calls.Call.{commit, recover_retained}
use Rattle.demand_steps.specs.Knowing.{Item, Watch}
use Rattle.demand_chains.specs.Plans.{planned, planned_back, firsts}
use Rattle.demand_chains.specs.Promises.{Forward, Backward}
use Rattle.demand_steps.proofs.Own.{own}
use Rattle.demand_steps.proofs.Facts.{Stage, Whole, tests, by_case}
use Rattle.demand_steps.proofs.Facts.Stage.{flat, flat_back, before, updating, after, undoing, backing}
use Rattle.demand_steps.proofs.Testing.{ranges}
use Rattle.demand_chains.proofs.Course.{Kind, Course}
use Rattle.demand_chains.proofs.Course.Kind.{update_only, structural}
use Rattle.demand_chains.proofs.Course.Course.{ahead, behind}
use Rattle.demand_chains.proofs.Chain.{Good, undamaged}

pub length_firsts : (plan : ℕ → Item) (m : ℕ) → length (firsts plan m) ≡ m
length_firsts plan zero = refl
length_firsts plan (suc m) = simp (length-append, length_firsts plan m) (omega arith)

-- the answer of a call that is refused 2, and then 4 if u, as a test
closes : (s u : Bool) (r : Record) (x : Told) → s ≡ true → successful x.class ≡ true →
    successful (pick (not s) (refuse Idle r) (pick u (refuse NotReady r) x)).class ≡ not u
unfolding pick
closes s true r x e h = rw e
closes s false r x e h = rw e h

neither : (d q : Bool) → not (d or not q) ≡ q && not d
unfolding ◌or◌
neither true true = refl
neither true false = refl
neither false true = refl
neither false false = refl

not_not : (b : Bool) → not (not b) ≡ b
not_not true = refl
not_not false = refl

module _ {r : Record} (w : Whole r) (e : r.staged ≡ true) where
  pub commit_is : successful (step r commit).class ≡ (eqb r.phase.number 0 || eqb r.phase.number 7) && (not r.restoring && eqb r.applied r.entries)
  unfolding own commit_own complete ◌and◌ ◌or◌
  commit_is =
      ap (λ (t : Told). successful t.class) (undamaged commit w)
      ∙ closes r.staged (not (complete r) or not (eqb r.phase.number 0 or eqb r.phase.number 7)) r _ e refl
      ∙ neither (not (complete r)) (eqb r.phase.number 0 or eqb r.phase.number 7)
      ∙ ap (λ (b : Bool). (eqb r.phase.number 0 || eqb r.phase.number 7) && b) (not_not _)

  pub retained_is : successful (step r recover_retained).class ≡ not (unrestored r)
  unfolding own recover_retained_own
  retained_is = ap (λ (t : Told). successful t.class) (undamaged recover_retained w) ∙ closes r.staged (unrestored r) r _ e refl

  pub recover_is : successful (step r recover_retained).class ≡ (eqb r.phase.number 0 || eqb r.phase.number 13) && not (ltb 0 r.entries)
  unfolding unrestored ◌or◌
  recover_is = retained_is ∙ neither (ltb 0 r.entries) (eqb r.phase.number 0 or eqb r.phase.number 13)

-- commit, by the rows
commit_row : {p f b n a k : ℕ} {v s : Bool} → Stage p f b n a k v → Kind s p → v ≡ false → a ≤ k → k ≤ n →
    (eqb p 0 || eqb p 7) && (not v && eqb a n) ≡ eqb (f + a) (planned s n)
commit_row (flat x1 x2 x3 x4) (update_only e y) h o m = rw (x1, x2, x3, e, zero-add)
commit_row (flat x1 x2 x3 x4) (structural e y) h o m = absurd (omega arith)
commit_row (flat_back x1 x2 x3 x4 x5) q h o m = absurd (omega tests)
commit_row {p} {f} {b} {n} {a} (before x1 x2 x3 x4 x5 x6) (structural e y) h o m =
    simp (e, ne_eqb p 0 (omega arith), ne_eqb p 7 (omega arith), ne_eqb (f + a) (5 + n) (omega arith))
commit_row (before x1 x2 x3 x4 x5 x6) (update_only e y) h o m = absurd (omega arith)
commit_row {p} {f} {b} {n} {a} (updating x1 x2 x3 x4 x5) (structural e y) h o m = simp (e, x2, ne_eqb (f + a) (5 + n) (omega arith))
commit_row (updating x1 x2 x3 x4 x5) (update_only e y) h o m = absurd (omega arith)
commit_row {p} {f} {b} {n} {a} (after x1 x2 x3 x4 x5 x6) (structural e y) h o m = by_case p 7
    (λ (i : p < 7). simp (e, ne_eqb p 0 (omega arith), ne_eqb p 7 (omega arith), ne_eqb (f + a) (5 + n) (omega arith)))
    (λ (i : 7 ≤ p). simp (e, x1, ne_eqb p 0 (omega arith), eq-eqb p 7 (omega arith), eq-eqb a n x6, eq-eqb (f + a) (5 + n) (omega arith)))
commit_row (after x1 x2 x3 x4 x5 x6) (update_only e y) h o m = absurd (omega arith)
commit_row (undoing x1 x2 x3 x4 x5 x6 x7) q h o m = absurd (omega tests)
commit_row (backing x1 x2 x3 x4 x5 x6 x7) q h o m = absurd (omega tests)

-- recovery, by the rows: u further reports, g started
recover_row : {p f b n a k : ℕ} {v s : Bool} (u g : ℕ) → Stage p f b n a k v → Kind s p → v ≡ true → u + n ≡ g + b →
    (eqb p 0 || eqb p 13) && not (ltb 0 n) ≡ eqb u (planned_back s g)
recover_row {p} {f} {b} {n} u g (flat_back x1 x2 x3 x4 x5) (update_only e y) h o = by_case 0 n
    (λ (i : 0 < n). simp (e, x2, lt-ltb 0 n i, ne_eqb u g (omega arith)))
    (λ (i : n ≤ 0). simp (e, x2, le-ltb 0 n i, eq-eqb u g (omega arith)))
recover_row u g (flat_back x1 x2 x3 x4 x5) (structural e y) h o = absurd (omega arith)
recover_row {p} {f} {b} {n} u g (undoing x1 x2 x3 x4 x5 x6 x7) (structural e y) h o = simp (e, x2, ne_eqb u (g + 4) (omega arith))
recover_row u g (undoing x1 x2 x3 x4 x5 x6 x7) (update_only e y) h o = absurd (omega arith)
recover_row {p} {f} {b} {n} u g (backing x1 x2 x3 x4 x5 x6 x7) (structural e y) h o = by_case p 13
    (λ (i : p < 13). simp (e, ne_eqb p 0 (omega arith), ne_eqb p 13 (omega arith), ne_eqb u (g + 4) (omega arith)))
    (λ (i : 13 ≤ p). simp (e, ne_eqb p 0 (omega arith), eq-eqb p 13 (omega arith), le-ltb 0 n (omega arith), eq-eqb u (g + 4) (omega arith)))
recover_row u g (backing x1 x2 x3 x4 x5 x6 x7) (update_only e y) h o = absurd (omega arith)
recover_row u g (flat x1 x2 x3 x4) q h o = absurd (omega tests)
recover_row u g (before x1 x2 x3 x4 x5 x6) q h o = absurd (omega tests)
recover_row u g (updating x1 x2 x3 x4 x5) q h o = absurd (omega tests)
recover_row u g (after x1 x2 x3 x4 x5 x6) q h o = absurd (omega tests)

-- no plan is overrun
ahead_within : {p f b n a k : ℕ} {v s : Bool} → Stage p f b n a k v → Kind s p → v ≡ false → a ≤ k → k ≤ n → f + a ≤ planned s n
ahead_within x (update_only e y) h o m = let z = (ranges x).ahead.start y in rw e (omega arith)
ahead_within x (structural e y) h o m = let z = (ranges x).ahead in rw e (omega (arith, z.bound))

back_within : {p f b n a k : ℕ} {v s : Bool} (u g : ℕ) → Stage p f b n a k v → Kind s p → u + n ≡ g + b → u ≤ planned_back s g
back_within {p} u g x (update_only e y) o = let z = (ranges x).behind.early (omega arith) in rw e (omega arith)
back_within {p} u g x (structural e y) o =
    by_case p 9 (λ (i : p < 9). let z = (ranges x).behind.early i in rw e (omega arith)) (λ (i : 9 ≤ p). let z = (ranges x).behind.late i in let j = (ranges x).bound in rw e (omega arith))

-- For a staged transaction with no rollback granted
pub forward_law : (w : Watch) (r : Record) → Good w r → w.running ≡ true → w.turned ≡ false → Forward r w
forward_law w r g i t = go g.tied.course
  where
    go : Course w.structural w.size w.started w.done w.undone r.forward r.back r.entries r.applied r.attempted r.restoring → Forward r w
    go (ahead e x y p q) =
        let l : length w.done ≡ r.forward + r.applied = ap length p ∙ length_firsts _ _ in
        let m = g.is_whole.size in
        record {
          order = rw l p;
          within = rw (l, ← x) (ahead_within g.is_whole.stage g.tied.kind e m.order m.inside);
          exact = rw (l, ← x) (commit_is g.is_whole (sym g.tied.running ∙ i) ∙ commit_row g.is_whole.stage g.tied.kind e m.order m.inside);
        }
    go (behind e u x y) = let j : r.restoring ≡ false = sym g.tied.turning ∙ t in absurd (omega tests)

-- After its first granted rollback
pub backward_law : (w : Watch) (r : Record) → Good w r → w.running ≡ true → w.turned ≡ true → Backward r w
backward_law w r g i t = go g.tied.course
  where
    go : Course w.structural w.size w.started w.done w.undone r.forward r.back r.entries r.applied r.attempted r.restoring → Backward r w
    go (behind e u x y) =
        let l : length w.undone ≡ u = ap length y ∙ length_firsts _ _ in
        record {
          order = rw l y;
          within = rw l (back_within u w.started g.is_whole.stage g.tied.kind x);
          exact = rw l (recover_is g.is_whole (sym g.tied.running ∙ i) ∙ recover_row u w.started g.is_whole.stage g.tied.kind e x);
        }
    go (ahead e x y p q) = let j : r.restoring ≡ true = sym g.tied.turning ∙ t in absurd (omega tests)
