-- `tail_rows::move_offset` meets its contract: the row's front has the words' records, before the move and after it. Assumes nothing.
use Rattle.std.proofs.Common.{◌/◌, length, drop, refl, sym, ap, ◌∙◌, arith}
use lib.Seq.{length-take-le, take_at}
use Rattle.tail_table.specs.Table.{words_of}
use Rattle.tail_table.specs.Sweeping.{room_of}
use Rattle.tail_rows.proofs.Sizes.{table, has_room, no_room, others_move, front_move}
use Rattle.tail_rows.proofs.move_offset.Goals as goal

pub returns-in-None : goal.returns-in-None
returns-in-None c =
    let k = no_room (room_of (length c.args.words.now)) c.room_of.ensures c.in-None.is in
    others_move c.args.words.now (room_of (length c.args.words.now)) c.args.used c.args.tail c.args.claim refl k

pub row_of-row-requires : goal.row_of-row-requires
row_of-row-requires c = let h = has_room (room_of (length c.args.words.now)) c.room_of.ensures c.in-Some.is in (table c.args.words.now _ h.0 h.1).most

pub slice_bounds-row-end : goal.slice_bounds-row-end
slice_bounds-row-end c =
    let h = has_room (room_of (length c.args.words.now)) c.room_of.ensures c.in-Some.is in
    let o = table c.args.words.now _ h.0 h.1 in let t = c.row_of-row.type_inv in omega (arith, o.most, o.records, t)

pub slice_bounds-move_offset-end : goal.slice_bounds-move_offset-end
slice_bounds-move_offset-end c =
    let h = has_room (room_of (length c.args.words.now)) c.room_of.ensures c.in-Some.is in
    let o = table c.args.words.now _ h.0 h.1 in
    let t = c.row_of-row.type_inv in
    sym (length-take-le _ c.row_of-row.result (omega (arith, o.most, o.records, t)))

pub put_back-requires : goal.put_back-requires
put_back-requires c =
    let h = has_room (room_of (length c.args.words.now)) c.room_of.ensures c.in-Some.is in
    let o = table c.args.words.now _ h.0 h.1 in (o.threes, o.most)

pub returns : goal.returns
returns c =
    let a = c.args in
    let h = has_room (room_of (length a.words.now)) c.room_of.ensures c.in-Some.is in
    let o = table a.words.now _ h.0 h.1 in
    let left = c.move_offset-answer.new.tails in
    let t = c.row_of-row.type_inv in
    let n = length-take-le c.in-Some.room.records c.row_of-row.result (omega (arith, o.most, o.records, t)) in
    let k = c.move_offset-answer.auto.tails in
    let w = take_at left (drop c.in-Some.room.records c.row_of-row.result) (length a.words.now / 3) (omega (arith, n, k, o.records)) in
    front_move a.words.now c.put_back.new.words _ c.row_of-row.result left a.used a.tail a.claim c.move_offset-answer.result o c.row_of-row.ensures (c.put_back.ensures ∙ ap words_of w) c.move_offset-answer.ensures
