-- Document 02, request 2, in chains: the calls on a tail table as one type, what each leaves, and when a table is sound. Assumes nothing.
use Rattle.tail_answers.specs.TailAnswers.{Verdict}
use Rattle.std.specs.Prelude.{ℕ, ◌≡◌, true, false, List, [], ◌∷◌, length, Result, Ok, Err}
use Rattle.wholeness.specs.Whole.{whole}
use Rattle.step_stamps.specs.Stamping.{passes}
use Rattle.tail_answers.specs.declared.TailRefusal.{TailRefusal}
use Rattle.tail_answers.specs.declared.Finding.{Finding}
use Rattle.tail_table.specs.Table.{other_words, unsound}
use Rattle.tail_table.specs.TailCalls.{TableLeft, find_of, add_of, remove_of, move_of}
use Rattle.tail_table.specs.declared.Tail.{Tail}
use Rattle.tail_table.specs.declared.File.{File}
use Rattle.tail_table.specs.declared.Claim.{Claim}

-- a table as it is lent: its words, and the count of its used records
pub record TailTable : Type 0 where
  pub words : List ℕ
  pub used : ℕ

-- "Given device, inode and size, finding .. Adding, removing and moving an offset are wanted too."
pub data TailCall : Type 0 where
  finding : File → ℕ → Claim → TailCall
  adding : Tail → TailCall
  removing : File → TailCall
  moving : Tail → Claim → TailCall

abbrev pub keeps : TableLeft → TailTable
keeps l = record { words = l.words; used = l.used }

-- what a call leaves, and what one after the other leave; finding writes nothing, by its type
abbrev pub after : TailCall → TailTable → TailTable
after (finding f size c) s = s
after (adding t) s = keeps (add_of s.words s.used t)
after (removing f) s = keeps (remove_of s.words s.used f)
after (moving t c) s = keeps (move_of s.words s.used t c)

abbrev pub after_all : List TailCall → TailTable → TailTable
after_all [] s = s
after_all (c ∷ cs) s = after_all cs (after c s)

-- whether a call is refused, and how
abbrev pub verdict_of : Result Finding TailRefusal → Verdict
verdict_of (Ok found) = Ok tt
verdict_of (Err why) = Err why

abbrev pub answers : TailCall → TailTable → Verdict
answers (finding f size c) s = verdict_of (find_of s.words s.used f size c)
answers (adding t) s = (add_of s.words s.used t).answer
answers (removing f) s = (remove_of s.words s.used f).answer
answers (moving t c) s = (move_of s.words s.used t c).answer

-- the record that a call's stamp is checked against is whole; adding and removing never look at one
abbrev pub WholeFor : TailCall → Type 0
WholeFor (finding f size c) = whole c.record ≡ true
WholeFor (adding t) = true ≡ true
WholeFor (removing f) = true ≡ true
WholeFor (moving t c) = whole c.record ≡ true

-- a table that no call refuses by itself
abbrev pub Sound : TailTable → Type 0
Sound s = (other_words (length s.words) ≡ false) × (unsound s.words s.used ≡ false)

-- a stamp that passes, of a record that is whole
abbrev pub Holds : Claim → Type 0
Holds c = (whole c.record ≡ true) × (passes c.record c.domain c.stamp ≡ true)
