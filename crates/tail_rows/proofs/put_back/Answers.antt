-- `tail_rows::put_back` meets its contract: after i records the first i are the row's, and after all of them nothing else is left.
-- Assumes nothing.
use Rattle.std.proofs.Common.{◌≡◌, ℕ, ◌/◌, length, take, refl, sym, ◌∙◌, ap, arith}
use Rattle.tail_table.specs.Table.{tails_of, words_of}
use Rattle.tail_sweeps.proofs.Words.{records, words_back, put_so}
use Rattle.tail_rows.proofs.Copying.{put_on, all_taken}
use Rattle.tail_rows.proofs.put_back.Goals as goal

pub loop-i-preserved : goal.loop-i-preserved
loop-i-preserved c =
    let l = c.loop-i in
    let stored = put_so l.words l.i _ (omega (arith, l.invariant)) c.put_tail.ensures in
    let turned = put_on l.words c.put_tail.new.words c.args.row.now l.i stored refl (omega arith) (omega (arith, l.invariant)) (omega arith) l.invariant.copied in
    record { long = turned.0 ∙ l.invariant.long; copied = turned.1 }

pub returns : goal.returns
returns c =
    let l = c.loop-i in
    let r = records l.words in
    let n : l.i ≡ length c.args.words.now / 3 = omega (arith, l.invariant) in
    let m : length (tails_of l.words) ≡ l.i = omega (arith, r, n, l.invariant) in
    sym (words_back l.words (omega (arith, l.invariant)))
    ∙ ap words_of (sym (all_taken (tails_of l.words)) ∙ ap (λ (k : ℕ). take k (tails_of l.words)) m ∙ l.invariant.copied ∙ ap (λ (k : ℕ). take k c.args.row.now) n)
