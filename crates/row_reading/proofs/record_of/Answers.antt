-- `row_reading::record_of` meets its contract: a number whose test passed fits its field. Assumes nothing.
use mathlib.Core.Path.{refl, ap}
use borrow.Author.Tests.{eq-eqb}
use native.Mathlib.Omega.{arith}
use Rattle.std.specs.Prelude.{Some}
use Rattle.choice.proofs.Picks.{yes, no, told}
use Rattle.choice.proofs.Tests.{join, no_right}
use Rattle.record.specs.Fields.{with_ticket}
use Rattle.tickets.specs.declared.Live.{Live}
use Rattle.row_reading.specs.RowReading.{at, made, record_of}
use Rattle.row_reading.proofs.Ranges.{ranged}
use Rattle.row_reading.proofs.record_of.Goals as goal

pub overflow_cast-row : goal.overflow_cast-row
overflow_cast-row c = omega (arith, ranged _ (told c.in_ranges.ensures c.if-not-in_ranges.false))

pub overflow_cast-result : goal.overflow_cast-result
overflow_cast-result c = omega (arith, ranged _ (told c.in_ranges.ensures c.if-not-in_ranges.false))

pub overflow_cast-result-2 : goal.overflow_cast-result-2
overflow_cast-result-2 c = omega (arith, ranged _ (told c.in_ranges.ensures c.if-not-in_ranges.false))

pub overflow_cast-result-3 : goal.overflow_cast-result-3
overflow_cast-result-3 c = omega (arith, ranged _ (told c.in_ranges.ensures c.if-not-in_ranges.false))

pub overflow_cast-result-4 : goal.overflow_cast-result-4
overflow_cast-result-4 c = omega (arith, ranged _ (told c.in_ranges.ensures c.if-not-in_ranges.false))

pub overflow_cast-result-5 : goal.overflow_cast-result-5
overflow_cast-result-5 c = omega (arith, ranged _ (told c.in_ranges.ensures c.if-not-in_ranges.false))

pub overflow_cast-result-6 : goal.overflow_cast-result-6
overflow_cast-result-6 c = omega (arith, ranged _ (told c.in_ranges.ensures c.if-not-in_ranges.false))

pub returns-then-not-in_ranges : goal.returns-then-not-in_ranges
unfolding record_of
returns-then-not-in_ranges c = no _ (no_right _ (told c.in_ranges.ensures c.if-not-in_ranges.true)) refl

pub returns : goal.returns
unfolding record_of
returns c =
    yes _ (join (eq-eqb _ _ c.well_formed.0.1.0.1) (told c.in_ranges.ensures c.if-not-in_ranges.false))
    (ap (λ (live : Live). Some (with_ticket (at c.args.row 1) live (made c.args.row))) c.live_of.ensures)
