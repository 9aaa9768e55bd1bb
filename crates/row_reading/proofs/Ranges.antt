-- What the tests of a row say of its numbers. Assumes nothing.
use Prim.Native.Nat.{ℕ, ◌≤◌}
use mathlib.Core.Path.{◌≡◌}
use mathlib.Core.Bool.{true, not}
use mathlib.Core.List.{List}
use lib.Dec.{eqb}
use Rattle.choice.specs.Pick.{◌or◌}
use Rattle.choice.proofs.Tests.{both, tests}
use Rattle.tickets.specs.Live.{no_ticket, rollback}
use Rattle.rows.specs.Rows.{top8, top32}
use Rattle.row_reading.specs.RowReading.{at, in_ranges}

pub record Ranged (row : List ℕ) : Type 0 where
  pub staged : at row 5 ≤ 1
  pub phase : at row 6 ≤ top8
  pub forward : at row 7 ≤ top8
  pub back : at row 8 ≤ top8
  pub entries : at row 9 ≤ top32
  pub applied : at row 10 ≤ top32
  pub attempted : at row 11 ≤ top32
  pub restoring : at row 12 ≤ 1
  pub work : at row 13 ≤ rollback
  pub ticket : not (eqb (at row 13) no_ticket) or eqb (at row 14) 0 ≡ true

pub ranged : (row : List ℕ) → in_ranges row ≡ true → Ranged row
unfolding in_ranges
ranged row h =
    let h9 = both h in
    let h8 = both h9.0 in
    let h7 = both h8.0 in
    let h6 = both h7.0 in
    let h5 = both h6.0 in
    let h4 = both h5.0 in
    let h3 = both h4.0 in
    let h2 = both h3.0 in
    let h1 = both h2.0 in
    record {
      staged = omega tests;
      phase = omega tests;
      forward = omega tests;
      back = omega tests;
      entries = omega tests;
      applied = omega tests;
      attempted = omega tests;
      restoring = omega tests;
      work = omega tests;
      ticket = h9.1;
    }
