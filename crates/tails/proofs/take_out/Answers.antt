-- `tails::take_out` meets its contract: each turn moves the next record down by one. Assumes nothing.
use Prim.Native.Nat.{ℕ, ◌-◌}
use mathlib.Core.Path.{◌≡◌, sym, ◌∙◌, ap}
use native.Mathlib.Omega.{arith}
use lib.ListN.{set}
use Rattle.tail_table.specs.Table.{tails_of, words_of, zeroes}
use Rattle.tail_sweeps.proofs.Words.{put_so}
use Rattle.tail_sweeps.proofs.Leaving.{leave_from, leave-more, leave-all}
use Rattle.tails.proofs.take_out.Goals as goal

pub loop-i-init : goal.loop-i-init
loop-i-init c = leave_from c.args.words.now c.args.place c.args.used c.requires.1.0 c.requires.1.1 c.requires.0

pub loop-i-preserved : goal.loop-i-preserved
loop-i-preserved c =
    let l = c.loop-i in
    leave-more c.args.words.now c.args.place c.args.used c.requires.1.0 c.requires.1.1 l.invariant (omega arith) c.tail_at-next.ensures (put_so l.words l.i _ l.invariant.shifting.threes c.put_tail.ensures)

pub returns : goal.returns
returns c =
    let a = c.args in
    let l = c.loop-i in
    let u = l.invariant.upto in
    let e : l.i ≡ a.used - 1 = omega (arith, u) in
    leave-all a.words.now a.place a.used c.requires.1.0 c.requires.1.1 l.invariant (omega (arith, u, e))
    (put_so l.words (a.used - 1) zeroes l.invariant.shifting.threes c.put_tail-2.ensures ∙ ap (λ (k : ℕ). words_of (set (tails_of l.words) k zeroes)) (sym e))
