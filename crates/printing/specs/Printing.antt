-- The texts of the lines that programs write. The words and the order of the numbers are those of the driver's page: "each writes its
-- answer's number, then its values"; "`record` with its fifteen numbers as above", and by request 3
-- "a sixteenth number at its end". Assumes nothing.
use Rattle.std.specs.Prelude.{ℕ, List, [], ◌∷◌, take}
use Rattle.lines.specs.Lines.{line_text}
use Rattle.record.specs.declared.Record.{Record}
use Rattle.replies.specs.declared.Reply.{Reply}
use Rattle.rows.specs.Rows.{row_of}

-- the word that the line begins with, by its letters in ASCII: r e c o r d
abbrev pub record_word : List ℕ
record_word = 114 ∷ 101 ∷ 99 ∷ 111 ∷ 114 ∷ 100 ∷ []

-- an answer has no word before its number; as many numbers are told as its count says, and never more than four
unfoldable pub reply_text : Reply → List ℕ
reply_text r = line_text [] (take r.count (r.number ∷ r.first ∷ r.second ∷ r.third ∷ []))

unfoldable pub record_text : Record → List ℕ
record_text r = line_text record_word (row_of r)
