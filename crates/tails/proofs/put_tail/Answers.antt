-- `tails::put_tail` meets its contract. Assumes nothing.
use Prim.Native.Nat.{◌+◌, ◌*◌}
use native.Mathlib.Omega.{arith}
use lib.ListN.{set, length-set}
use Rattle.tail_sweeps.proofs.Words.{put_no_records, put_past, put_in_place}
use Rattle.tails.proofs.put_tail.Goals as goal

pub returns-then-words-ne0 : goal.returns-then-words-ne0
returns-then-words-ne0 c = let a = c.args in put_no_records a.words.now a.i a.t c.if-words-ne0.true

pub returns-then-words-i : goal.returns-then-words-i
returns-then-words-i c = let a = c.args in put_past a.words.now a.i a.t c.if-words-ne0.false c.if-words-i.true

pub bounds-words-at-2 : goal.bounds-words-at-2
bounds-words-at-2 c = let a = c.args in let l = length-set a.words.now (a.i * 3) a.t.device in omega (arith, l)

pub bounds-words-at-3 : goal.bounds-words-at-3
bounds-words-at-3 c =
    let a = c.args in
    let l = length-set a.words.now (a.i * 3) a.t.device in
    let m = length-set (set a.words.now (a.i * 3) a.t.device) (a.i * 3 + 1) a.t.inode in
    omega (arith, l, m)

pub returns : goal.returns
returns c = let a = c.args in put_in_place a.words.now a.i a.t c.if-words-ne0.false c.if-words-i.false
