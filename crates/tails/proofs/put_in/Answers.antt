-- `tails::put_in` meets its contract: each turn puts down the record in hand and takes up the one that stood there. Assumes nothing.
use mathlib.Core.Path.{◌∙◌, ap}
use native.Mathlib.Omega.{arith}
use Rattle.tail_table.specs.Table.{used_of}
use Rattle.tail_table.specs.Sweeping.{place_of}
use Rattle.tail_sweeps.proofs.Words.{put_so}
use Rattle.tail_sweeps.proofs.Entering.{enter_from, enter-more, enter-all}
use Rattle.tails.proofs.put_in.Goals as goal

pub loop-i-init : goal.loop-i-init
loop-i-init c =
    let a = c.args in
    let p = c.place_of-place.ensures ∙ ap (place_of (used_of a.words.now a.used)) c.file.ensures in
    enter_from a.words.now c.place_of-place.result a.used a.t c.requires.1 p c.requires.0

pub loop-i-preserved : goal.loop-i-preserved
loop-i-preserved c =
    let a = c.args in
    let l = c.loop-i in
    let p = c.place_of-place.ensures ∙ ap (place_of (used_of a.words.now a.used)) c.file.ensures in
    enter-more a.words.now c.place_of-place.result a.used a.t c.requires.1 p l.invariant (omega arith) c.tail_at-next.ensures (put_so l.words l.i l.carried l.invariant.shifting.threes c.put_tail.ensures)

pub returns : goal.returns
returns c =
    let a = c.args in
    let l = c.loop-i in
    let p = c.place_of-place.ensures ∙ ap (place_of (used_of a.words.now a.used)) c.file.ensures in
    enter-all a.words.now c.place_of-place.result a.used a.t c.requires.1 p l.invariant (omega (arith, l.invariant.upto)) (put_so l.words a.used l.carried l.invariant.shifting.threes c.put_tail-2.ensures)
