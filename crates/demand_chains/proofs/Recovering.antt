-- What both recoveries answer while a transaction runs: after a granted rollback, and where none was granted. Assumes nothing.
use Prim.Native.Nat.{ℕ, ◌≤◌, ◌<◌}
use mathlib.Core.Path.{◌≡◌, refl, sym, ◌∙◌, ap}
use mathlib.Core.Bool.{Bool, true, false, not, ◌&&◌, ◌||◌}
use mathlib.Core.List.{List}
use native.Mathlib.Omega.{arith}
use lib.Dec.{eqb, ltb}
use borrow.Author.Tests.{eq-eqb, ne_eqb, lt-ltb, le-ltb}
use Rattle.choice.specs.Pick.{pick, ◌and◌}
use Rattle.areas.specs.Areas.{long}
use Rattle.answers.specs.Classes.{successful}
use Rattle.record.specs.Answers.{Told, refuse}
use Rattle.record.specs.declared.Record.{Record}
use Rattle.answers.specs.declared.Refusal.TheVariants.{Idle, NotReady, LongSnapshot}
use Rattle.step_recoveries.specs.Recovering.{unrestored, recover_own, recover_retained_own}
use Rattle.calls.specs.Calls.{step}
use Rattle.calls.specs.Calls.Call.{recover, recover_retained}
use Rattle.demand_steps.specs.Knowing.{Item, Watch}
use Rattle.demand_chains.specs.Turning.{Recoveries, back, untouched}
use Rattle.demand_steps.proofs.Own.{own}
use Rattle.demand_steps.proofs.Facts.{Stage, Whole, tests, by_case}
use Rattle.demand_steps.proofs.Testing.{ranges}
use Rattle.demand_chains.proofs.Course.{Kind, Course}
use Rattle.demand_chains.proofs.Course.Kind.{update_only, structural}
use Rattle.demand_chains.proofs.Course.Course.{ahead, behind}
use Rattle.demand_chains.proofs.Chain.{Good, undamaged}
use Rattle.demand_chains.proofs.Exactly.{retained_is, recover_is, backward_law}

-- 2, and then 4 if u, and then 16 if l
retains : (s u : Bool) (r : Record) (x : Told) → s ≡ true → x.number ≡ 0 → (pick (not s) (refuse Idle r) (pick u (refuse NotReady r) x)).number ≡ pick (not u) 0 4
unfolding pick
retains s true r x e z = rw e
retains s false r x e z = rw e z

gives : (s u l : Bool) (r : Record) (x : Told) → s ≡ true → x.number ≡ 0 →
    (pick (not s) (refuse Idle r) (pick u (refuse NotReady r) (pick l (refuse LongSnapshot r) x))).number ≡ pick (not u) (pick l 16 0) 4
unfolding pick
gives s true l r x e z = rw e
gives s false true r x e z = rw e
gives s false false r x e z = rw e z

module _ {r : Record} (w : Whole r) (e : r.staged ≡ true) where
  retained_by : (step r recover_retained).number ≡ pick (not (unrestored r)) 0 4
  unfolding own recover_retained_own
  retained_by = ap (λ (t : Told). t.number) (undamaged recover_retained w) ∙ retains r.staged (unrestored r) r _ e refl

  given_by : (n : ℕ) → (step r (recover n)).number ≡ pick (not (unrestored r)) (pick (long n) 16 0) 4
  unfolding own recover_own
  given_by n = ap (λ (t : Told). t.number) (undamaged (recover n) w) ∙ gives r.staged (unrestored r) (long n) r _ e refl

-- with no rollback granted, there is nothing to undo exactly where nothing is to be done
early_row : {p f b n a k : ℕ} {v s : Bool} → Stage p f b n a k v → Kind s p → v ≡ false → (eqb p 0 || eqb p 13) && not (ltb 0 n) ≡ not s and eqb n 0
unfolding ◌and◌
early_row {p} {f} {b} {n} x (update_only e y) h = by_case 0 n
    (λ (i : 0 < n). simp (e, y, lt-ltb 0 n i, ne_eqb n 0 (omega arith)))
    (λ (i : n ≤ 0). simp (e, y, le-ltb 0 n i, eq-eqb n 0 (omega arith)))
early_row {p} x (structural e y) h = by_case p 8
    (λ (i : p < 8). simp (e, ne_eqb p 0 (omega arith), ne_eqb p 13 (omega arith)))
    (λ (i : 8 ≤ p). absurd (omega (tests, (ranges x).turned.behind i)))

of_size : {s : Bool} {z g f b n a k : ℕ} {d u : List Item} {v : Bool} → Course s z g d u f b n a k v → v ≡ false → n ≡ z
of_size (ahead e x y p q) h = x
of_size (behind e m x y) h = absurd (omega tests)

module _ (w : Watch) (r : Record) (g : Good w r) (i : w.running ≡ true) where
  by_test : (b : Bool) → successful (step r recover_retained).class ≡ b → Recoveries r b
  by_test b h =
      let e : r.staged ≡ true = sym g.tied.running ∙ i in
      let j = sym (retained_is g.is_whole e) ∙ h in
      record {
        retained = retained_by g.is_whole e ∙ ap (λ (c : Bool). pick c 0 4) j;
        given = λ n. given_by g.is_whole e n ∙ ap (λ (c : Bool). pick c (pick (long n) 16 0) 4) j;
      }

  pub back_law : w.turned ≡ true → Recoveries r (back w)
  back_law t = by_test (back w) (backward_law w r g i t).exact

  pub early_exact : w.turned ≡ false → successful (step r recover_retained).class ≡ untouched w
  early_exact t =
      let v : r.restoring ≡ false = sym g.tied.turning ∙ t in
      recover_is g.is_whole (sym g.tied.running ∙ i) ∙ early_row g.is_whole.stage g.tied.kind v
      ∙ ap (λ (n : ℕ). not w.structural and eqb n 0) (of_size g.tied.course v)

  pub early_law : w.turned ≡ false → Recoveries r (untouched w)
  early_law t = by_test (untouched w) (early_exact t)
