-- `tail_structs::move_offset` meets its contract: what is decided, once it is stored, is what the call on flat words answers and leaves.
-- Assumes nothing.
use Rattle.std.proofs.Common.{◌≡◌, Ok, Err, sym, ap, ◌∙◌, rules}
use Rattle.tail_answers.specs.TailAnswers.{Verdict}
use Rattle.tail_table.specs.Table.{words_of}
use Rattle.tail_table.specs.TailCalls.{table_left}
use Rattle.tail_table.specs.Sweeping.{placed}
use Rattle.tail_structs.specs.Structs.{offset_set}
use Rattle.tail_structs.proofs.Agree.{move_agrees}
use Rattle.tail_structs.proofs.move_offset.Goals as goal

pub returns-in_err-move_by : goal.returns-in_err-move_by
returns-in_err-move_by c =
    let a = c.args in
    let r : c.from_residual.result ≡ Err c.in_err-move_by.field-0.0 = search rules in
    ap (λ (x : Verdict). table_left x a.used (words_of a.tails.now)) r
    ∙ ap (λ (x : Verdict). table_left x a.used (words_of (placed x c.scan-s.result.place a.tail.offset a.tails.now))) (sym c.in_err-move_by.was)
    ∙ move_agrees a.tails.now a.used a.tail a.claim c.of_records.ensures c.file.ensures c.scan-s.ensures c.move_by.ensures

pub returns : goal.returns
unfolding offset_set
returns c =
    let a = c.args in
    ap (λ us. table_left (Ok tt) a.used (words_of us)) c.set_offset.ensures
    ∙ ap (λ (x : Verdict). table_left x a.used (words_of (placed x c.scan-s.result.place a.tail.offset a.tails.now))) (sym c.in_ok-move_by.was)
    ∙ move_agrees a.tails.now a.used a.tail a.claim c.of_records.ensures c.file.ensures c.scan-s.ensures c.move_by.ensures
