-- `tails::sweep` meets its contract: after i records the sweep is that of the first i. Assumes nothing.
use mathlib.Core.Path.{◌∙◌, ap}
use native.Mathlib.Omega.{arith}
use lib.ListN.{length}
use Rattle.tail_table.specs.Table.{tails_of}
use Rattle.tail_table.specs.Sweeping.{reach_of}
use Rattle.tail_table.specs.declared.Room.{Room}
use Rattle.tail_sweeps.proofs.Words.{records}
use Rattle.tail_sweeps.proofs.Sweeps.{swept_on_lem}
use Rattle.tail_sweeps.proofs.Deciding.{reach_within}
use Rattle.tails.proofs.sweep.Goals as goal

pub loop-i-preserved : goal.loop-i-preserved
loop-i-preserved c =
    let w = c.args.words.now in
    let n = c.reach-n.ensures ∙ ap (λ (r : Room). reach_of r c.args.used) c.of_words.ensures in
    let k = reach_within (length w) c.args.used in
    let r = records w in
    swept_on_lem (tails_of w) _ c.loop-i.i c.loop-i.invariant c.tail_at.ensures c.step-s.ensures (omega (arith, n, k, r))
