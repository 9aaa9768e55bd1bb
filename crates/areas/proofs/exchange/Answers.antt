-- `areas::exchange` meets its contract: the first k blocks have changed places, and then the rest. Assumes nothing.
use mathlib.Core.Path.{◌≡◌, refl, sym, subst}
use Prim.Native.Nat.{ℕ, ◌+◌, ◌*◌, ◌/◌}
use lib.ListN.{length}
use native.Mathlib.Omega.{arith}
use borrow.Author.Tests.{eq-eqb, ne_eqb}
use Rattle.choice.proofs.Picks.{yes, no}
use Rattle.areas.specs.Areas.{exchanged}
use Rattle.areas.specs.Blocks.{block_size}
use Rattle.areas.proofs.Over.{Copying, copy_none}
use Rattle.areas.proofs.Blocks.{swap_part, swap_rest}
use Rattle.areas.proofs.exchange.Goals as goal

pub returns-then-b-n : goal.returns-then-b-n
unfolding exchanged
returns-then-b-n c = no _ (ne_eqb _ _ c.if-b-n.true) refl

pub loop-k-init : goal.loop-k-init
loop-k-init c = (copy_none _ _, copy_none _ _)

pub loop-k-preserved : goal.loop-k-preserved
loop-k-preserved c =
    let v = c.loop-k.invariant in
    let e = c.exchange_blocks.ensures in
    let next : block_size * c.loop-k.k + block_size ≡ block_size * (c.loop-k.k + 1) = omega arith in
    let P : ℕ → Type 0 = λ i. Copying c.args.a.now c.args.b.now c.exchange_blocks.new.a i × Copying c.args.b.now c.args.a.now c.exchange_blocks.new.b i in
    subst P next (swap_part v.0 v.1 block_size e.0 (omega arith) (omega arith), swap_part v.1 v.0 block_size e.1 (omega arith) (omega arith))

pub returns : goal.returns
unfolding exchanged
returns c =
    let a = c.args.a.now in
    let b = c.args.b.now in
    let through : c.loop-k.k ≡ length a / block_size = omega arith in
    let P : ℕ → Type 0 = λ k. Copying a b c.loop-k.a (block_size * k) × Copying b a c.loop-k.b (block_size * k) in
    let v = subst P through c.loop-k.invariant in
    let e = c.swap_with_slice.ensures in
    let same : length b ≡ length a = c.if-b-n.false in
    yes _ (eq-eqb _ _ same) (cc (swap_rest v.0 v.1 same e.after, swap_rest v.1 v.0 (sym same) e.other_after))
