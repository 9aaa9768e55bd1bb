-- Document 01, "What a call answers": the number and the values of each answer. Assumes nothing.
use Rattle.std.specs.Prelude.{ℕ, List, [], ◌∷◌}
use Rattle.answers.specs.Classes.{Class, number_of}
use Rattle.answers.specs.Classes.Class.{performed, refusal, stepping}
use Rattle.answers.specs.Classes.StepAnswer.{ticket, waiting, failed, more, finished}
use Rattle.answers.specs.declared.Answer.{Answer}
use Rattle.answers.specs.declared.Answer.TheVariants.{Done, Refused, Ticket, Waiting, Failed, More, Finished}
use Rattle.answers.specs.declared.Was.{Was}
use Rattle.answers.specs.declared.Was.TheVariants.{Nothing, One, Three}

abbrev pub values_of : Was → List ℕ
values_of Nothing = []
values_of (One a) = a ∷ []
values_of (Three a b c) = a ∷ b ∷ c ∷ []

-- an answer's class, number and values
pub record Said : Type 0 where
  pub class : Class
  pub number : ℕ
  pub values : List ℕ

abbrev pub said : Class → List ℕ → Said
said c vs = record { class = c; number = number_of c; values = vs }

-- what the paper says of each answer: its class, with its number, and the values that it carries
abbrev pub says : Answer → Said
says (Done was) = said performed (values_of was)
says (Refused why) = said (refusal why) []
says (Ticket number item) = said (stepping ticket) (number ∷ item ∷ [])
says Waiting = said (stepping waiting) []
says (Failed code) = said (stepping failed) (code ∷ [])
says More = said (stepping more) []
says Finished = said (stepping finished) []
