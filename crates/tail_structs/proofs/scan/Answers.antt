-- `tail_structs::scan` meets its contract: a turn is one step of the sweep, and at the loop's end all that are looked at are seen.
-- Assumes nothing.
use Rattle.std.proofs.Common.{ℕ, List, length, take, refl, ap, sym, ◌∙◌, arith}
use lib.Seq.{length-take-le, take_all}
use Rattle.tail_table.specs.Sweeping.{reach_of, swept}
use Rattle.tail_table.specs.declared.Room.{Room}
use Rattle.tail_table.specs.declared.Tail.{Tail}
use Rattle.tail_sweeps.proofs.Sweeps.{swept_on_lem}
use Rattle.tail_structs.specs.Structs.{looked}
use Rattle.tail_structs.proofs.Agree.{reach_fits}
use Rattle.tail_structs.proofs.scan.Goals as goal

pub slice_bounds-tail-items-end : goal.slice_bounds-tail-items-end
slice_bounds-tail-items-end c =
    let e = c.reach-n.ensures ∙ ap (λ (r : Room). reach_of r c.args.used) c.of_records.ensures in
    let f = reach_fits (length c.args.tails.now) c.args.used in
    sym (length-take-le c.reach-n.result c.args.tails.now (omega (arith, e, f)))

pub loop-i-init : goal.loop-i-init
loop-i-init c = c.start-s.ensures

pub loop-i-preserved : goal.loop-i-preserved
loop-i-preserved c = swept_on_lem (take c.reach-n.result c.args.tails.now) _ c.loop-i.i c.loop-i.invariant refl c.step-s.ensures c.loop-i-test.true

pub returns : goal.returns
unfolding looked
returns c =
    let ts = c.args.tails.now in
    c.loop-i.invariant
    ∙ ap (λ (us : List Tail). swept us c.args.file) (take_all c.loop-i.i (take c.reach-n.result ts) (omega arith))
    ∙ ap (λ (k : ℕ). swept (take k ts) c.args.file) (c.reach-n.ensures ∙ ap (λ (r : Room). reach_of r c.args.used) c.of_records.ensures)
