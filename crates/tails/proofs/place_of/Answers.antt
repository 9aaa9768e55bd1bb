-- `tails::place_of` meets its contract: the records below i stand before the file. Assumes nothing.
use mathlib.Core.Path.{◌≡◌, sym, ◌∙◌, ap}
use mathlib.Core.Bool.{not}
use mathlib.Core.List.{List}
use native.Mathlib.Omega.{arith}
use lib.Seq.{length-take-le, take_all}
use borrow.Author.Tests.{not-true, not-false}
use Rattle.tail_table.specs.Table.{tails_of, used_of}
use Rattle.tail_table.specs.Sweeping.{ahead}
use Rattle.tail_table.specs.declared.Tail.{Tail}
use Rattle.tail_sweeps.proofs.Places.{ahead_more, place_here, place_end, read_so}
use Rattle.tails.proofs.place_of.Goals as goal

pub returns-then-not-before : goal.returns-then-not-before
returns-then-not-before c =
    let a = c.args in
    let u = length-take-le a.used (tails_of a.words.now) c.requires in
    let e = read_so a.file a.words.now a.used c.loop-i.i (omega arith) c.tail_at.ensures c.file.ensures c.before-in-loop-i.ensures in
    sym (place_here a.file (used_of a.words.now a.used) c.loop-i.i (omega (arith, u)) c.loop-i.invariant (e ∙ not-true _ (ap not c.if-not-before.true)))

pub loop-i-preserved : goal.loop-i-preserved
loop-i-preserved c =
    let a = c.args in
    let u = length-take-le a.used (tails_of a.words.now) c.requires in
    let e = read_so a.file a.words.now a.used c.loop-i.i (omega arith) c.tail_at.ensures c.file.ensures c.before-in-loop-i.ensures in
    ahead_more a.file (used_of a.words.now a.used) c.loop-i.i (omega (arith, u)) c.loop-i.invariant (e ∙ not-false _ (ap not c.if-not-before.false))

pub returns : goal.returns
returns c =
    let a = c.args in
    let u = length-take-le a.used (tails_of a.words.now) c.requires in
    let n : c.loop-i.i ≡ a.used = omega arith in
    let h = take_all c.loop-i.i (used_of a.words.now a.used) (omega (arith, u, n)) in
    sym (place_end a.file (used_of a.words.now a.used) (ap (λ (us : List Tail). ahead us a.file) (sym h) ∙ c.loop-i.invariant) ∙ u)
