-- Demand 1 and the exact refusals for the status part: a call answers exactly by its rows, one of which is given, and a refusal leaves
-- the status bytes; the group bytes are only read, by their type. Assumes nothing.
use Prim.Native.Nat.{ℕ}
use mathlib.Core.Path.{◌≡◌, refl}
use mathlib.Core.Bool.{Bool, true, not}
use mathlib.Core.List.{List}
use lib.Dec.{eqb}
use lib.ListN.{get_or}
use Rattle.choice.specs.Pick.{◌and◌, ◌or◌}
use Rattle.answers.specs.Classes.{number_of, refused}
use Rattle.status_bits.specs.declared.StatusCall.{StatusCall}
use Rattle.answers.specs.declared.Refusal.TheVariants.{BadArea, Damaged, NoStatus}
use Rattle.status_bits.specs.Bits.{allowed}
use Rattle.status.specs.Status.{Marks, Entry, put, entry_of, marking, marks_of, other_lengths, outside, bytes_sound}
use Rattle.status.specs.Status.Entry.{At, No}
use Rattle.demand_refusals.specs.Rows.{given, among, distinct, how_many}
use Rattle.demand_refusals.specs.Marks.{status_rows, status_numbers}
use Rattle.demand_refusals.proofs.Rows.{View, Fits, row, last, around, under, over}
use Rattle.demand_refusals.proofs.Rows.Leaf.{stays}
use Rattle.demand_refusals.proofs.OneRow.{Listed, one_given, one_listed}

module _ (groups status : List ℕ) (id : ℕ) where
  abbrev leaving : View Marks
  leaving = record { class = λ m. m.said.class; number = λ m. m.said.number; same = λ m. m.status ≡ status }

  abbrev group : ℕ
  group = get_or groups id 0

  abbrev mark : ℕ
  mark = get_or status id 0

  abbrev sound : Bool
  sound = bytes_sound group mark

  abbrev allows : StatusCall → Bool
  allows c = allowed c group mark

  fits_rows : (c : StatusCall) → Fits leaving (marks_of groups status id c) (status_rows groups status id c)
  unfolding status_rows entry_of marking put ◌and◌
  fits_rows c =
      over F {x = entry_of groups status id}
      (row {x = No BadArea} {k = 6} (other_lengths groups status) (stays refl refl refl) (λ _.
      around {x = No NoStatus} {k = 13} {m = 7} (outside status id) (not sound) (not (allows c)) (stays refl refl refl)
      (row {x = No Damaged} {k = 7} (not sound) (stays refl refl refl) (λ _.
      under F {x = At id group mark} (row {v = leaving} {k = 13} (not (allows c)) (stays refl refl refl) (λ _. last refl refl refl))))))
    where
      F : Entry → Marks
      F = marking c status

  module _ (c : StatusCall) where
    all_listed : Listed (status_rows groups status id c) status_numbers
    unfolding status_rows status_numbers distinct among ◌and◌ ◌or◌
    all_listed = (refl, refl)

    pub status-exact : (n : ℕ) → eqb (marks_of groups status id c).said.number n ≡ given (status_rows groups status id c) n
    status-exact = (fits_rows c).exact

    pub status-one : how_many (given (status_rows groups status id c)) status_numbers ≡ 1
    status-one = one_given (status_rows groups status id c) all_listed (fits_rows c)

    pub status-listed : among (marks_of groups status id c).said.number status_numbers ≡ true
    status-listed = one_listed (status_rows groups status id c) all_listed (fits_rows c)

    pub status-named : (marks_of groups status id c).said.number ≡ number_of (marks_of groups status id c).said.class
    status-named = (fits_rows c).named

    pub status-refusal : refused (marks_of groups status id c).said.class ≡ true → (marks_of groups status id c).status ≡ status
    status-refusal = (fits_rows c).kept
