-- Document 01, "Status": link, initialize and cancel. Groups are never written, by their type. Assumes nothing.
use Rattle.std.specs.Prelude.{ℕ, Bool, not, List, [], Result, Ok, Err, eqb, leb, ltb, length, get_or, set}
use Rattle.choice.specs.Pick.{pick, ◌and◌, ◌or◌}
use Rattle.answers.specs.Classes.Class.{performed, refusal}
use Rattle.answers.specs.Answers.{Said, said}
use Rattle.answers.specs.declared.Refusal.{Refusal}
use Rattle.answers.specs.declared.Refusal.TheVariants.{BadArea, Damaged, NoStatus}
use Rattle.status_bits.specs.Bits.{group_most, mark_linked, mark_most, has, allowed, next}
use Rattle.status_bits.specs.declared.StatusCall.{StatusCall}

-- the class and values of each case
abbrev pub says_marked : Result (Unit {0}) Refusal → Said
says_marked (Ok u) = said performed []
says_marked (Err why) = said (refusal why) []

-- what a call answers, and the status bytes that it leaves
pub record Marks : Type 0 where
  pub said : Said
  pub status : List ℕ

abbrev pub leaves_marks : Said → List ℕ → Marks
leaves_marks s l = record { said = s; status = l }

-- "equal lengths 1 to 256, index = id; other lengths give 6."
abbrev pub most_ids : ℕ
most_ids = 256

abbrev pub other_lengths : List ℕ → List ℕ → Bool
other_lengths groups status = not (eqb (length groups) (length status)) or ltb (length status) 1 or ltb most_ids (length status)

-- "Ids 0 or past the end then give 13, before any byte is read."
abbrev pub outside : List ℕ → ℕ → Bool
outside status id = eqb id 0 or leb (length status) id

-- "A group byte over 7, a status byte over 15, or a nonzero status byte without 1, gives 7 for that id."
unfoldable pub bytes_sound : ℕ → ℕ → Bool
bytes_sound group mark = leb group group_most and leb mark mark_most and (eqb mark 0 or has mark_linked mark)

-- an id with its two bytes, or why they are not looked at
pub data Entry : Type 0 where
  At : (at group mark : ℕ) → Entry
  No : Refusal → Entry

-- what is found at an id
unfoldable pub entry_of : List ℕ → List ℕ → ℕ → Entry
entry_of groups status id =
    pick (other_lengths groups status) (No BadArea)
    (pick (outside status id) (No NoStatus)
    (pick (not (bytes_sound (get_or groups id 0) (get_or status id 0))) (No Damaged)
    (At id (get_or groups id 0) (get_or status id 0))))

-- "13 unless" the call is allowed; then that id's byte is the next one
unfoldable pub put : Bool → ℕ → ℕ → List ℕ → Marks
put allowed id mark status =
    pick (not allowed) (leaves_marks (says_marked (Err NoStatus)) status) (leaves_marks (says_marked (Ok tt)) (set status id mark))

-- the rest of a call, by what was found at the id
unfoldable pub marking : StatusCall → List ℕ → Entry → Marks
marking c status (No why) = leaves_marks (says_marked (Err why)) status
marking c status (At id group mark) = put (allowed c group mark) id (next c mark) status

-- what a call answers and leaves, of group bytes, status bytes and an id
abbrev pub marks_of : List ℕ → List ℕ → ℕ → StatusCall → Marks
marks_of groups status id c = marking c status (entry_of groups status id)
