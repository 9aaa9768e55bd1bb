-- What finding and moving see of a slice of tail structs, and what moving does. Assumes nothing.
use Rattle.std.specs.Prelude.{ℕ, List, length, take, get_or, set}
use Rattle.tail_table.specs.Table.{with_offset, zeroes}
use Rattle.tail_table.specs.Sweeping.{room_for, reach_of, swept}
use Rattle.tail_table.specs.declared.Tail.{Tail}
use Rattle.tail_table.specs.declared.File.{File}
use Rattle.tail_table.specs.declared.Sweep.{Sweep}

-- what is known of a file after the records that are looked at
unfoldable pub looked : List Tail → ℕ → File → Sweep
looked ts used f = swept (take (reach_of (room_for (length ts)) used) ts) f

-- the records with another offset at a place
unfoldable pub offset_set : ℕ → ℕ → List Tail → List Tail
offset_set at offset ts = set ts at (with_offset offset (get_or ts at zeroes))
