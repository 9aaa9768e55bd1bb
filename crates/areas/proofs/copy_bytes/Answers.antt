-- `areas::copy_bytes` meets its contract: the first k parts are copied, and then the rest. Assumes nothing.
use mathlib.Core.Path.{◌≡◌, refl, subst}
use Prim.Native.Nat.{ℕ, ◌+◌, ◌-◌, ◌*◌, ◌/◌}
use lib.ListN.{length}
use native.Mathlib.Omega.{arith}
use borrow.Author.Tests.{lt-ltb, le-ltb}
use Rattle.choice.proofs.Picks.{yes, no}
use Rattle.areas.specs.Areas.{copied}
use Rattle.areas.specs.Blocks.{part_size}
use Rattle.areas.proofs.Over.{Copying, copy_none, copy_all}
use Rattle.areas.proofs.Blocks.{part_more}
use Rattle.areas.proofs.copy_bytes.Goals as goal

pub returns-then-dst-n : goal.returns-then-dst-n
unfolding copied
returns-then-dst-n c = yes _ (lt-ltb _ _ c.if-dst-n.true) refl

pub loop-k-init : goal.loop-k-init
loop-k-init c = copy_none _ _

pub loop-k-preserved : goal.loop-k-preserved
loop-k-preserved c =
    let next : part_size * c.loop-k.k + part_size ≡ part_size * (c.loop-k.k + 1) = omega arith in
    subst (Copying _ _ _) next (part_more c.loop-k.invariant part_size c.copy_part.ensures (omega arith) (omega arith))

pub returns : goal.returns
unfolding copied
returns c =
    let s = c.args.src.now in
    let n = length s in
    let before = part_size * (c.saturating_sub-parts.result / part_size) in
    let e = c.saturating_sub-parts.ensures in
    let through : c.loop-k.k ≡ c.saturating_sub-parts.result / part_size = omega arith in
    let v = subst (λ (k : ℕ). Copying c.args.dst.now s c.loop-k.dst (part_size * k)) through c.loop-k.invariant in
    let all = part_more v (n - before) c.copy_part-2.ensures (omega (arith, e)) (omega (arith, e)) in
    no _ (le-ltb _ _ c.if-dst-n.false) (copy_all all (omega (arith, e)))
