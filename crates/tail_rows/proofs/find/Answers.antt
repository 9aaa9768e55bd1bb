-- `tail_rows::find` meets its contract: the row's front has the words' records. Assumes nothing.
use Rattle.std.proofs.Common.{length, refl, sym, arith}
use lib.Seq.{length-take-le}
use Rattle.tail_table.specs.Sweeping.{room_of}
use Rattle.tail_rows.proofs.Sizes.{table, has_room, no_room, others_find, front_find}
use Rattle.tail_rows.proofs.find.Goals as goal

pub returns-in_default : goal.returns-in_default
returns-in_default c =
    let k = no_room (room_of (length c.args.words.now)) c.room_of.ensures c.in_default.is in
    others_find c.args.words.now (room_of (length c.args.words.now)) c.args.used c.args.file c.args.size c.args.claim refl k

pub row_of-row-requires : goal.row_of-row-requires
row_of-row-requires c = let h = has_room (room_of (length c.args.words.now)) c.room_of.ensures c.in-Some.is in (table c.args.words.now _ h.0 h.1).most

pub slice_bounds-row-end : goal.slice_bounds-row-end
slice_bounds-row-end c =
    let h = has_room (room_of (length c.args.words.now)) c.room_of.ensures c.in-Some.is in
    let o = table c.args.words.now _ h.0 h.1 in let t = c.row_of-row.type_inv in omega (arith, o.most, o.records, t)

pub slice_bounds-find-end : goal.slice_bounds-find-end
slice_bounds-find-end c =
    let h = has_room (room_of (length c.args.words.now)) c.room_of.ensures c.in-Some.is in
    let o = table c.args.words.now _ h.0 h.1 in
    let t = c.row_of-row.type_inv in
    sym (length-take-le _ c.row_of-row.result (omega (arith, o.most, o.records, t)))

pub returns : goal.returns
returns c =
    let a = c.args in
    let h = has_room (room_of (length a.words.now)) c.room_of.ensures c.in-Some.is in
    let o = table a.words.now _ h.0 h.1 in
    front_find a.words.now _ c.row_of-row.result a.used a.file a.size a.claim o c.row_of-row.ensures c.find.ensures
