-- `step_structure::advanced` meets its contract. Assumes nothing.
use Prim.Native.Nat.{◌+◌}
use mathlib.Core.Bool.{Bool}
use mathlib.Core.Path.{ap, sym, ◌∙◌}
use borrow.Author.Tests.{le-leb, lt-leb}
use Rattle.choice.specs.Pick.{pick}
use Rattle.phases.specs.declared.Phase.{Phase}
use Rattle.std.specs.Prelude.{Option}
use Rattle.record.specs.Fields.{with_place}
use Rattle.record.specs.declared.Record.{Record}
use Rattle.step_structure.specs.Structure.{onward, advanced}
use Rattle.step_structure.proofs.advanced.Goals as goal

-- the record, by the test of its phase
abbrev by : Record → Phase → Bool → Record
by r q t = with_place q.number (pick t (r.forward + 1) r.forward) (pick t r.back (r.back + 1)) r

abbrev from : Record → Option Phase → Record
from r n = onward n r

pub returns-in_default : goal.returns-in_default
unfolding advanced onward
returns-in_default c = ap (from c.args.r) (sym c.in_default.is ∙ c.successor.ensures)

pub returns-then-p-le-ADOPT : goal.returns-then-p-le-ADOPT
unfolding advanced onward pick
returns-then-p-le-ADOPT c =
    let r = c.args.r in
    ap (by r _) (sym (le-leb _ _ c.if-p-le-ADOPT.true)) ∙ ap (from r) (sym c.in-Some.is ∙ c.successor.ensures)

pub returns : goal.returns
unfolding advanced onward pick
returns c =
    let r = c.args.r in
    ap (by r _) (sym (lt-leb _ _ c.if-p-le-ADOPT.false)) ∙ ap (from r) (sym c.in-Some.is ∙ c.successor.ensures)
