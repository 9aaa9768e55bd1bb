-- Document 02, request 2: what finding, adding, removing and moving answer and leave, of the table's words, the count of its used
-- records and what the call is given. Assumes nothing.
use Rattle.std.specs.Prelude.{ℕ, ◌+◌, ◌-◌, not, List, [], ◌∷◌, ◌++◌, leb, ltb, length, Result, Ok, Err}
use Rattle.choice.specs.Pick.{pick, ◌or◌}
use Rattle.wholeness.specs.Whole.{whole}
use Rattle.step_stamps.specs.Stamping.{passes}
use Rattle.bars.specs.Bars.{Bar, ◌whenever◌, verdict}
use Rattle.tail_answers.specs.TailAnswers.{Verdict}
use Rattle.tail_answers.specs.declared.TailRefusal.{TailRefusal}
use Rattle.tail_answers.specs.declared.TailRefusal.TheVariants.{BadArea, Damaged, Full, Present, Backward, Absent, Unstamped}
use Rattle.tail_answers.specs.declared.Finding.{Finding}
use Rattle.tail_answers.specs.declared.Finding.TheVariants as F
use Rattle.tail_table.specs.Table.{tails_of, file_of, other_words, used_of, unsound, stands, saved_of, entered, without, moved_to, over_first, zeroes}
use Rattle.tail_table.specs.declared.Tail.{Tail}
use Rattle.tail_table.specs.declared.File.{File}
use Rattle.tail_table.specs.declared.Claim.{Claim}

-- what a call answers, the count of used records and the words that it leaves
pub record TableLeft : Type 0 where
  pub answer : Verdict
  pub used : ℕ
  pub words : List ℕ

abbrev pub table_left : Verdict → ℕ → List ℕ → TableLeft
table_left answer used words = record { answer = answer; used = used; words = words }

-- the same by what adding and removing answer, the count where they are done: a refused call leaves it
abbrev pub counted : Result ℕ TailRefusal → ℕ → List ℕ → TableLeft
counted (Ok count) used words = table_left (Ok tt) count words
counted (Err why) used words = table_left (Err why) used words

-- a refused call leaves count and words as they are
abbrev pub settled : Verdict → ℕ → List ℕ → ℕ → List ℕ → TableLeft
settled (Ok u) used words used' words' = table_left (Ok tt) used' words'
settled (Err why) used words used' words' = table_left (Err why) used words

-- "a multiple of 3, at most 768, else BadArea; .. a count that does not fit, or used records out of order, are Damaged next"
abbrev pub on_table : List ℕ → ℕ → List (Bar TailRefusal) → List (Bar TailRefusal)
on_table words used own = BadArea whenever other_words (length words) ∷ Damaged whenever unsound words used ∷ own

-- "Finding and moving take a stamp: then 35 if it does not pass": the transaction's own check, which says 7 of a record that is not whole
abbrev pub on_stamp : List ℕ → ℕ → Claim → List (Bar TailRefusal) → List (Bar TailRefusal)
on_stamp words used c own =
    BadArea whenever other_words (length words)
    ∷ Damaged whenever (unsound words used or not (whole c.record))
    ∷ Unstamped whenever not (passes c.record c.domain c.stamp)
    ∷ own

-- "Given device, inode and size, finding answers Same with the saved offset, Shrunk when the size is below the offset, or Unknown."
abbrev pub looked_up : List Tail → File → ℕ → Finding
looked_up us f size = pick (not (stands us f)) F.Unknown (pick (ltb size (saved_of us f)) F.Shrunk (F.Same (saved_of us f)))

abbrev pub found : Verdict → Finding → Result Finding TailRefusal
found (Ok u) finding = Ok finding
found (Err why) finding = Err why

abbrev pub find_of : List ℕ → ℕ → File → ℕ → Claim → Result Finding TailRefusal
find_of words used f size c = found (verdict (on_stamp words used c [])) (looked_up (used_of words used) f size)

-- "Adding a pair twice is 32, then a full table 31"
abbrev pub add_row : List ℕ → ℕ → Tail → List (Bar TailRefusal)
add_row words used t =
    on_table words used
    (Present whenever stands (used_of words used) (file_of t)
    ∷ Full whenever leb (length (tails_of words)) used
    ∷ [])

abbrev pub add_of : List ℕ → ℕ → Tail → TableLeft
add_of words used t = settled (verdict (add_row words used t)) used words (used + 1) (over_first (entered t (used_of words used)) words)

-- "removing .. an absent pair 34", and "Removing zeroes the freed last record."
abbrev pub remove_row : List ℕ → ℕ → File → List (Bar TailRefusal)
remove_row words used f = on_table words used (Absent whenever not (stands (used_of words used) f) ∷ [])

abbrev pub remove_of : List ℕ → ℕ → File → TableLeft
remove_of words used f =
    settled (verdict (remove_row words used f)) used words (used - 1) (over_first (without f (used_of words used) ++ zeroes ∷ []) words)

-- "moving an absent pair 34, then an offset that goes back 33"
abbrev pub move_row : List ℕ → ℕ → Tail → Claim → List (Bar TailRefusal)
move_row words used t c =
    on_stamp words used c
    (Absent whenever not (stands (used_of words used) (file_of t))
    ∷ Backward whenever ltb t.offset (saved_of (used_of words used) (file_of t))
    ∷ [])

abbrev pub move_of : List ℕ → ℕ → Tail → Claim → TableLeft
move_of words used t c =
    settled (verdict (move_row words used t c)) used words used (over_first (moved_to t.offset (file_of t) (used_of words used)) words)
