-- Document 02, request 2: what the calls of the tail table answer, and each answer's number and values. Assumes nothing.
use Rattle.std.specs.Prelude.{ℕ, List, [], ◌∷◌, Result, Ok, Err}
use Rattle.answers.specs.Classes.{refusal_number}
use Rattle.answers.specs.declared.Refusal.TheVariants as why
use Rattle.tail_answers.specs.declared.TailRefusal.{TailRefusal}
use Rattle.tail_answers.specs.declared.TailRefusal.TheVariants.{BadArea, Damaged, Full, Present, Backward, Absent, Unstamped}
use Rattle.tail_answers.specs.declared.Finding.{Finding}
use Rattle.tail_answers.specs.declared.Finding.TheVariants as F

-- "else BadArea; .. are Damaged next", by the numbers of document 01; "Adding a pair twice is 32, then a full table 31; removing or
-- moving an absent pair 34, then an offset that goes back 33", and of the stamp "35 if it does not pass"
abbrev pub tail_number : TailRefusal → ℕ
tail_number BadArea = refusal_number why.BadArea
tail_number Damaged = refusal_number why.Damaged
tail_number Full = 31
tail_number Present = 32
tail_number Backward = 33
tail_number Absent = 34
tail_number Unstamped = 35

-- what adding, removing and moving answer: they are done, or why not
abbrev pub Verdict : Type 0
Verdict = Result (Unit {0}) TailRefusal

-- an answer's number and values: what is done or found is 0, and finding tells "Same with the saved offset, Shrunk .., or Unknown" by
-- 0 with the offset, 1 and 2
pub record TailSaid : Type 0 where
  pub number : ℕ
  pub values : List ℕ

abbrev pub tail_said : ℕ → List ℕ → TailSaid
tail_said n vs = record { number = n; values = vs }

abbrev pub says_verdict : Verdict → TailSaid
says_verdict (Ok u) = tail_said 0 []
says_verdict (Err w) = tail_said (tail_number w) []

abbrev pub says_finding : Result Finding TailRefusal → TailSaid
says_finding (Ok (F.Same offset)) = tail_said 0 (0 ∷ offset ∷ [])
says_finding (Ok F.Shrunk) = tail_said 0 (1 ∷ [])
says_finding (Ok F.Unknown) = tail_said 0 (2 ∷ [])
says_finding (Err w) = tail_said (tail_number w) []
