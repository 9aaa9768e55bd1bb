-- Document 01, "Status": the numbers that the status calls answer, each with its test. Assumes nothing.
use Rattle.std.specs.Prelude.{ℕ, not, List, [], ◌∷◌, get_or}
use Rattle.choice.specs.Pick.{◌and◌, ◌or◌}
use Rattle.status_bits.specs.Bits.{allowed}
use Rattle.status_bits.specs.declared.StatusCall.{StatusCall}
use Rattle.status.specs.Status.{other_lengths, outside, bytes_sound}
use Rattle.demand_refusals.specs.Rows.{Row, ◌when◌, otherwise}

-- "equal lengths 1 to 256 ..; other lengths give 6. Ids 0 or past the end then give 13, before any byte is read. A group byte over 7, a
-- status byte over 15, or a nonzero status byte without 1, gives 7 for that id." 13 stands before 7 and after it, so 7 comes first, with
-- the id in its test
unfoldable pub status_rows : List ℕ → List ℕ → ℕ → StatusCall → List Row
status_rows groups status id c =
    6 when other_lengths groups status
    ∷ 7 when (not (outside status id) and not (bytes_sound (get_or groups id 0) (get_or status id 0)))
    ∷ 13 when (outside status id or not (allowed c (get_or groups id 0) (get_or status id 0)))
    ∷ 0 when otherwise
    ∷ []

unfoldable pub status_numbers : List ℕ
status_numbers = 6 ∷ 7 ∷ 13 ∷ 0 ∷ []
