-- `tail_rows::row_of` meets its contract: after i records the first i are the words', and after all of them these are all that there are.
-- Assumes nothing.
use Rattle.std.proofs.Common.{◌≡◌, ℕ, ◌/◌, length, take, ◌∙◌, ap, arith}
use Rattle.std.proofs.Math.ListN.{length-set}
use Rattle.tail_table.specs.Table.{tails_of}
use Rattle.tail_sweeps.proofs.Words.{records}
use Rattle.tail_rows.proofs.Copying.{copied_on, all_taken}
use Rattle.tail_rows.proofs.row_of.Goals as goal

pub loop-i-preserved : goal.loop-i-preserved
loop-i-preserved c =
    let l = c.loop-i in
    let w = c.args.words.now in
    let r = records w in
    record {
      long = length-set l.row l.i c.tail_at.result ∙ l.invariant.long;
      copied = copied_on l.row (tails_of w) l.i c.tail_at.ensures (omega (arith, l.invariant)) (omega (arith, r, l.invariant)) l.invariant.copied;
    }

pub returns : goal.returns
returns c =
    let l = c.loop-i in
    let w = c.args.words.now in
    let r = records w in
    let n : length w / 3 ≡ l.i = omega (arith, l.invariant) in
    let m : l.i ≡ length (tails_of w) = omega (arith, r, n) in
    ap (λ (k : ℕ). take k l.row) n ∙ l.invariant.copied ∙ ap (λ (k : ℕ). take k (tails_of w)) m ∙ all_taken (tails_of w)
