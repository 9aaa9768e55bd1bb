-- C200 and F5: applied counts the updates that were reported Done, so a commit that succeeds has as many successes as entries. C243: a
-- recovery to a snapshot succeeds only after every started update's inverse was reported done. Assumes nothing.
use Prim.Native.Nat.{ℕ, zero, suc, ◌+◌, ◌-◌, ◌≤◌, ◌<◌, min}
use mathlib.Core.{Path.◌≡◌, Path.refl, Path.sym, Path.◌∙◌, Path.ap, Bool.Bool, Bool.true, Bool.false, List.List, List.[], List.◌∷◌, List.◌++◌}
use native.Mathlib.Omega.{arith}
use lib.Dec.{eqb}
use borrow.Author.Tests.{lt-ltb, le-ltb, not-true}
use Rattle.choice.specs.Pick.{pick, ◌or◌}
use Rattle.choice.proofs.Tests.{both, either}
use Rattle.record.specs.{declared.Record.Record, declared.Opening.Opening}
use Rattle.answers.specs.{Classes.successful, Classes.Class.performed}
use Rattle.completeness.specs.Complete.{complete}
use Rattle.step_opens.specs.Opening.{open_step}
use Rattle.calls.specs.{Calls.step, Calls.Call.commit, Calls.Call.recover}
use Rattle.demand_steps.specs.Typed.{Typed}
use Rattle.demand_steps.specs.Knowing.{Item, Watch, unwatched}
use Rattle.demand_steps.specs.Watching.{watch}
use Rattle.demand_steps.proofs.{Facts.Stage, Facts.tests, Facts.Behind, Facts.by_case, Testing.ranges, Calming.range, Wholeness.whole_test}
use Rattle.demand_steps.proofs.Facts.Stage.{flat, flat_back, before, updating, after, undoing, backing}
use Rattle.demand_chains.specs.{Sending.Sent, Sending.after_sent, Sending.heard_sent, Plans.plan_at, Plans.planned_back, Plans.back_at, Plans.firsts}
use Rattle.demand_chains.proofs.{Course.Kind, Course.Course, Course.Kind.update_only, Course.Kind.structural, Course.Course.ahead, Course.Course.behind, Chain.Good, Theorems.good}
use Rattle.clauses.specs.{Successes.is_update, Successes.successes, Chains.Undone, Ending.CanRecover}
use Rattle.clauses.proofs.Endings.{commit_clauses, recover-clauses}

one_more : (is : List Item) (i : Item) → successes (is ++ (i ∷ [])) ≡ successes is + is_update i
one_more [] i = omega arith
one_more (j ∷ js) i = let h = one_more js i in omega arith

-- how many of the first m of a plan are updates
flat_plan : (n m : ℕ) → successes (firsts (plan_at false n) m) ≡ m
flat_plan n zero = refl
flat_plan n (suc m) = rw (one_more (firsts (plan_at false n) m)) (let h = flat_plan n m in omega arith)

is_update_lem : (n i : ℕ) → is_update (plan_at true n i) + min (i - 4) n ≡ min (suc i - 4) n
unfolding pick
is_update_lem n i =
    by_case i 4 (λ (h : i < 4). rw (lt-ltb i 4 h) (omega arith)) (λ (h : 4 ≤ i).
    by_case i (4 + n) (λ (g : i < 4 + n). rw (le-ltb i 4 h, lt-ltb i (4 + n) g) (omega arith)) (λ (g : 4 + n ≤ i). rw (le-ltb i 4 h, le-ltb i (4 + n) g) (omega arith)))

structural_plan : (n m : ℕ) → successes (firsts (plan_at true n) m) ≡ min (m - 4) n
structural_plan n zero = omega arith
structural_plan n (suc m) = rw (one_more (firsts (plan_at true n) m)) (let h = structural_plan n m in let g = is_update_lem n m in omega arith)

-- by the rows of a whole record
counted : {p f b n a k : ℕ} {v : Bool} → Stage p f b n a k v → 1 ≤ p → v ≡ false → a ≤ k → k ≤ n → min (f + a - 4) n ≡ a
counted (flat x1 x2 x3 x4) y h o i = absurd (omega arith)
counted (flat_back x1 x2 x3 x4 x5) y h o i = absurd (omega arith)
counted (before x1 x2 x3 x4 x5 x6) y h o i = omega arith
counted (updating x1 x2 x3 x4 x5) y h o i = omega arith
counted (after x1 x2 x3 x4 x5 x6) y h o i = omega arith
counted (undoing x1 x2 x3 x4 x5 x6 x7) y h o i = absurd (omega tests)
counted (backing x1 x2 x3 x4 x5 x6 x7) y h o i = absurd (omega tests)

row : {p f b n a k : ℕ} {v s : Bool} → Stage p f b n a k v → Kind s p → v ≡ false → a ≤ k → k ≤ n → successes (firsts (plan_at s n) (f + a)) ≡ a
row {p} {f} {b} {n} {a} x (update_only e y) h o i = let z = (ranges x).ahead.start y in rw e (flat_plan n (f + a) ∙ omega arith)
row {p} {f} {b} {n} {a} x (structural e y) h o i = rw e (structural_plan n (f + a) ∙ counted x y h o i)

-- with nothing left, phase 0 is the end of an update-only transaction, and 13 that of a structural one, after four phases back
all_back : {s : Bool} {p b : ℕ} (k : ℕ) → Kind s p → Behind p b → eqb p 0 or eqb p 13 ≡ true → k + b ≡ planned_back s k
all_back k (update_only s z) d e = rw s (omega (arith, d.early (omega arith)))
all_back k (structural s z) d e = rw s (either e (λ i. absurd (omega tests)) (λ i. omega (tests, d.late (omega tests))))

abbrev Follows : Watch → Record → Type 0
Follows w r = Course w.structural w.size w.started w.done w.undone r.forward r.back r.entries r.applied r.attempted r.restoring

module _ (w : Watch) (r : Record) (g : Good w r) where
  counts : Follows w r → w.turned ≡ false → successes w.done ≡ r.applied
  counts (ahead e x y p q) t = let m = g.is_whole.size in rw (p, ← x) (row g.is_whole.stage g.tied.kind e m.order m.inside)
  counts (behind e u x y) t = let j : r.restoring ≡ false = sym g.tied.turning ∙ t in absurd (omega tests)

  -- until a rollback is granted, the record's applied is what the watcher counts
  pub applied_counts : w.turned ≡ false → successes w.done ≡ r.applied
  applied_counts = counts g.tied.course

  -- where a recovery succeeds nothing is left: none was started, or all that was is undone
  undone : {n : ℕ} → CanRecover r n → Follows w r → Undone w
  undone c (ahead v x y p q) = let e = ranges g.is_whole.stage in
      either c.place (λ i.
      let a = all_back w.started g.tied.kind e.behind c.place in
      let h : 0 ≡ planned_back w.structural w.started = omega (tests, c.empty, g.is_whole.size, e.behind.early (omega tests)) in
      q ∙ ap (firsts (back_at w.started)) h) (λ i. let b = e.turned.behind (omega tests) in absurd (omega tests))
  undone c (behind v u x y) =
      let a = all_back w.started g.tied.kind (ranges g.is_whole.stage).behind c.place in
      let h : u ≡ planned_back w.structural w.started = omega (arith, c.empty) in
      y ∙ ap (firsts (back_at w.started)) h

-- a commit that succeeds finds no rollback granted
not_restoring : (r : Record) → complete r ≡ true → r.restoring ≡ false
unfolding complete
not_restoring r e = not-true _ (both e).0

-- in every chain from an opening that is not refused
module _ (sized : Bool) (given : Opening) (l : ℕ) (m : Typed given) (o : successful (open_step sized given l).class ≡ true) (ss : List Sent) where
  abbrev now : Record
  now = after_sent (open_step sized given l).state ss

  abbrev seen : Watch
  seen = watch unwatched (heard_sent (open_step sized given l).state ss)

  -- a commit that succeeds has as many successes as entries
  pub committed_successes : (step now commit).class ≡ performed → successes seen.done ≡ now.entries
  committed_successes h =
      let g = good sized given l m o ss in
      let x = commit_clauses now (range g.is_whole.calm) (whole_test g.is_whole) in
      applied_counts seen now g (g.tied.turning ∙ not_restoring now (x.c190.0 h).complete) ∙ (x.ok h).c200

  pub snapshot_undone : (n : ℕ) → (step now (recover n)).class ≡ performed → Undone seen
  snapshot_undone n h =
      let g = good sized given l m o ss in
      undone seen now g ((recover-clauses now (range g.is_whole.calm) (whole_test g.is_whole) n).c204.0 h) g.tied.course
