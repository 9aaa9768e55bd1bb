-- While a transaction runs and the serial has room for the tickets left, some asks and reports lead to its end. Assumes nothing.
use Prim.Native.Nat.{ℕ, zero, suc, ◌+◌, ◌-◌, ◌≤◌}
use mathlib.Core.Path.{◌≡◌, refl, ◌∙◌}
use mathlib.Core.Bool.{Bool, true, false}
use mathlib.Core.List.{List, [], ◌∷◌, ◌++◌}
use native.Mathlib.Omega.{arith}
use borrow.Author.Tests.{eq-eqb}
use Rattle.choice.specs.Pick.{pick}
use Rattle.choice.proofs.Tests.{both, join}
use Rattle.record.specs.Fields.{top}
use Rattle.record.specs.declared.Record.{Record}
use Rattle.calls.specs.Calls.{Call, step}
use Rattle.demand_chains.specs.Chains.{after, heard}
use Rattle.demand_steps.specs.Knowing.{Watch}
use Rattle.demand_steps.specs.Watching.{watch}
use Rattle.demand_chains.specs.Progress.{counted, wanted, worked, Finishes}
use Rattle.demand_chains.proofs.Chain.{Good}
use Rattle.demand_chains.proofs.Exactly.{forward_law, backward_law}
use Rattle.demand_chains.proofs.Rounds.{Round, round}

-- nothing is left: commit, or after a granted rollback recovery, is performed
ends : (v : Bool) {w : Watch} {r : Record} → Good w r → w.running ≡ true → w.turned ≡ v → counted w ≡ wanted w → Finishes r w
unfolding after worked pick
ends true {w} {r} g i e n = record { calls = []; by_work = refl; ends = rw e ((backward_law w r g i e).exact ∙ eq-eqb _ _ (rw e at n)) }
ends false {w} {r} g i e n = record { calls = []; by_work = refl; ends = rw e ((forward_law w r g i e).exact ∙ eq-eqb _ _ (rw e at n)) }

joined : (r : Record) (cs ds : List Call) → after r (cs ++ ds) ≡ after (after r cs) ds
unfolding after
joined r [] ds = refl
joined r (c ∷ cs) ds = joined (step r c).state cs ds

both_worked : (cs ds : List Call) → worked cs ≡ true → worked ds ≡ true → worked (cs ++ ds) ≡ true
unfolding worked
both_worked [] ds p q = q
both_worked (c ∷ cs) ds p q = let x = both p in join x.0 (both_worked cs ds x.1 q)

-- work after which one more is counted, and then that to the end
goes_on_lem : {w : Watch} {r : Record} (x : Round w r) → Finishes (after r x.calls) (watch w (heard r x.calls)) → Finishes r w
goes_on_lem {w} {r} x y = record { calls = x.calls ++ y.calls; by_work = both_worked x.calls y.calls x.by_work y.by_work; ends = rw (joined r x.calls y.calls, ← x.noted.turned) y.ends }

-- m are left
finish : (m : ℕ) {w : Watch} {r : Record} → Good w r → w.running ≡ true → wanted w ≡ counted w + m → r.serial + m ≤ top → Finishes r w
finish zero g i n s = ends _ g i refl (omega arith)
finish (suc m) g i n s =
    let x = round i (omega arith) g (omega arith) in
    goes_on_lem x (finish m x.good (x.noted.running ∙ i) (omega arith) (omega arith))

within : (v : Bool) {w : Watch} {r : Record} → Good w r → w.running ≡ true → w.turned ≡ v → counted w ≤ wanted w
unfolding pick
within true {w} {r} g i e = rw e (backward_law w r g i e).within
within false {w} {r} g i e = rw e (forward_law w r g i e).within

pub finish_law : (w : Watch) (r : Record) → Good w r → w.running ≡ true → r.serial + wanted w ≤ top + counted w → Finishes r w
finish_law w r g i s = let h = within _ g i refl in finish (wanted w - counted w) g i (omega arith) (omega arith)
