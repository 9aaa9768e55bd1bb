-- `tails::move_offset` meets its contract. Assumes nothing.
use Rattle.std.proofs.Common.{◌∙◌}
use Rattle.bars.specs.Bars.{verdict}
use Rattle.tail_table.specs.Table.{file_of, used_of, moved_to, over_first}
use Rattle.tail_table.specs.TailCalls.{move_row}
use Rattle.tail_sweeps.proofs.Deciding.{place_so}
use Rattle.tails.proofs.Settling.{refused_so, done_so}
use Rattle.tails.proofs.Advancing.{moving_by, moved, in_words, advanced}
use Rattle.tails.proofs.move_offset.Goals as goal

pub returns-in-Err : goal.returns-in-Err
returns-in-Err c =
    let a = c.args in
    let e = moving_by a.words.now a.used a.tail a.claim c.of_words.ensures c.file.ensures c.sweep-s.ensures c.move_by.ensures in
    refused_so (verdict (move_row a.words.now a.used a.tail a.claim)) _ a.used a.words.now a.used (over_first (moved_to a.tail.offset (file_of a.tail) (used_of a.words.now a.used)) a.words.now) e c.in-Err.is

pub put_offset-requires : goal.put_offset-requires
put_offset-requires c =
    let a = c.args in
    let m = moved a.words.now a.used a.tail a.claim c.of_words.ensures c.file.ensures c.sweep-s.ensures c.move_by.ensures c.in_default.is in
    in_words a.words.now a.used a.tail a.claim _ m (place_so m.table c.file.ensures c.sweep-s.ensures m.there)

pub returns : goal.returns
returns c =
    let a = c.args in
    let e = moving_by a.words.now a.used a.tail a.claim c.of_words.ensures c.file.ensures c.sweep-s.ensures c.move_by.ensures in
    let d = c.in_default.is in
    let m = moved a.words.now a.used a.tail a.claim c.of_words.ensures c.file.ensures c.sweep-s.ensures c.move_by.ensures d in
    done_so (verdict (move_row a.words.now a.used a.tail a.claim)) a.used a.words.now a.used (over_first (moved_to a.tail.offset (file_of a.tail) (used_of a.words.now a.used)) a.words.now) e d
    (c.put_offset.ensures ∙ advanced a.words.now a.used a.tail a.claim _ m (place_so m.table c.file.ensures c.sweep-s.ensures m.there))
