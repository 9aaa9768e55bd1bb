-- Rows and records are the same: a record's numbers give it back, and a row that gives a record is its numbers. Assumes nothing.
use Prim.Native.Nat.{ℕ, zero, suc, ◌≤◌}
use mathlib.Core.Path.{◌≡◌, refl, sym, ◌∙◌, ap}
use mathlib.Core.Bool.{Bool, true, false, not}
use mathlib.Core.List.{List, [], ◌∷◌}
use lib.Dec.{eqb, leb}
use lib.ListN.{length}
use native.Mathlib.Omega.{arith}
use borrow.Author.Tests.{le-leb, eqb-true}
use Rattle.choice.specs.Pick.{pick, ◌and◌, ◌or◌}
use Rattle.choice.proofs.Picks.{yes, no}
use Rattle.choice.proofs.Tests.{both, join, test}
use Rattle.tickets.specs.Live.{no_ticket, rollback, work_of, number}
use Rattle.record.specs.declared.Record.{Record}
use Rattle.tickets.specs.declared.Live.{Live}
use Rattle.tickets.specs.declared.Live.TheVariants.{None, Structure, Update, Rollback}
use Rattle.rows.specs.Rows.{flag, row_of, fields, top8, top32}
use Rattle.row_reading.specs.RowReading.{at, in_ranges, live_of, made, record_of}
use Rattle.std.specs.Prelude.{Some}
use Rattle.std.specs.Prelude as Prelude
use Rattle.row_reading.proofs.Ranges.{Ranged, ranged}

-- what the types of a record's fields say of its numbers
pub record Typed (r : Record) : Type 0 where
  pub phase : r.phase.number ≤ top8
  pub forward : r.forward ≤ top8
  pub back : r.back ≤ top8
  pub entries : r.entries ≤ top32
  pub applied : r.applied ≤ top32
  pub attempted : r.attempted ≤ top32

flag_fits : (b : Bool) → leb (flag b) 1 ≡ true
flag_fits true = refl
flag_fits false = refl

flag_back : (b : Bool) → eqb (flag b) 1 ≡ b
flag_back true = refl
flag_back false = refl

-- a live ticket's kind is one of the four, and that of none has the number 0
work_fits : (l : Live) → leb (work_of l) rollback ≡ true
work_fits None = refl
work_fits (Structure n) = refl
work_fits (Update n) = refl
work_fits (Rollback n) = refl

ticket_fits : (l : Live) → not (eqb (work_of l) no_ticket) or eqb (number l) 0 ≡ true
unfolding ◌or◌
ticket_fits None = refl
ticket_fits (Structure n) = refl
ticket_fits (Update n) = refl
ticket_fits (Rollback n) = refl

live_back : (l : Live) → live_of (work_of l) (number l) ≡ l
unfolding live_of pick
live_back None = refl
live_back (Structure n) = refl
live_back (Update n) = refl
live_back (Rollback n) = refl

in_ranges_lem : (r : Record) → Typed r → in_ranges (row_of r) ≡ true
unfolding in_ranges row_of
in_ranges_lem r t =
    join (join (join (join (join (join (join (join (join (flag_fits r.staged)
    (le-leb _ _ t.phase)) (le-leb _ _ t.forward)) (le-leb _ _ t.back))
    (le-leb _ _ t.entries)) (le-leb _ _ t.applied)) (le-leb _ _ t.attempted))
    (flag_fits r.restoring)) (work_fits r.live)) (ticket_fits r.live)

made_back : (r : Record) → made (row_of r) ≡ r
unfolding row_of
made_back r = simp (flag_back, live_back)

-- the numbers of a record give it back
pub record_back : (r : Record) → Typed r → record_of (row_of r) ≡ Some r
unfolding record_of row_of
record_back r t = sym (yes _ (join refl (in_ranges_lem r t)) (ap Some (sym (made_back r))))

flag_same : (n : ℕ) → n ≤ 1 → flag (eqb n 1) ≡ n
flag_same zero h = refl
flag_same (suc zero) h = refl
flag_same (suc (suc n)) h = absurd (omega arith)

live_same : (work n : ℕ) → work ≤ rollback → not (eqb work no_ticket) or eqb n 0 ≡ true
    → (work_of (live_of work n) ≡ work) × (number (live_of work n) ≡ n)
unfolding live_of pick ◌or◌
live_same zero n h t = (refl, sym (eqb-true n 0 t))
live_same (suc zero) n h t = (refl, refl)
live_same (suc (suc zero)) n h t = (refl, refl)
live_same (suc (suc (suc zero))) n h t = (refl, refl)
live_same (suc (suc (suc (suc k)))) n h t = absurd (omega arith)

-- a list by its elements
listed : (ℕ → ℕ) → ℕ → List ℕ
listed f zero = []
listed f (suc n) = f 0 ∷ listed (λ i. f (suc i)) n

all_listed : (row : List ℕ) → listed (at row) (length row) ≡ row
unfolding listed
all_listed [] = refl
all_listed (n ∷ row) = ap (λ (l : List ℕ). n ∷ l) (all_listed row)

numbers_made : (row : List ℕ) → length row ≡ fields → Ranged row → row_of (made row) ≡ row
unfolding row_of listed
numbers_made row l t =
    let live = live_same (at row 13) (at row 14) t.work t.ticket in
    simp (flag_same (at row 5) t.staged, flag_same (at row 12) t.restoring, live.0, live.1)
    (ap (listed (at row)) (sym l) ∙ all_listed row)

-- a row that gives a record is that record's numbers
pub numbers_back : (row : List ℕ) (r : Record) → record_of row ≡ Some r → row_of r ≡ row
unfolding record_of
numbers_back row r e =
    test (eqb (length row) fields and in_ranges row)
    (λ h. let fits = both h in
    let same : made row ≡ r = cc (yes {x = Some (made row)} Prelude.None h refl) in
    ap row_of (sym same) ∙ numbers_made row (eqb-true _ _ fits.0) (ranged row fits.1))
    (λ h. let z : ◌≡◌ {A = ℕ} 0 1 = cc (no {y = Prelude.None} (Some (made row)) h refl) in absurd (omega arith))
