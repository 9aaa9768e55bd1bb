-- Document 01, "What a call answers": what a call tells, its answer and the record. Assumes nothing.
use Rattle.std.specs.Prelude.{ℕ, List}
use Rattle.answers.specs.Classes.{Class}
use Rattle.answers.specs.Answers.{Said, says}
use Rattle.answers.specs.declared.Answer.{Answer}
use Rattle.answers.specs.declared.Answer.TheVariants.{Refused}
use Rattle.answers.specs.declared.Refusal.{Refusal}
use Rattle.record.specs.declared.Record.{Record}
use Rattle.record.specs.declared.Stepped.{Stepped}

-- what a call tells its caller: class, number, values and the record afterwards
pub record Told : Type 0 where
  pub class : Class
  pub number : ℕ
  pub values : List ℕ
  pub state : Record

abbrev pub told : Said → Record → Told
told s r = record { class = s.class; number = s.number; values = s.values; state = r }

abbrev pub said_of : Told → Said
said_of t = record { class = t.class; number = t.number; values = t.values }

abbrev pub tells : Stepped → Told
tells s = told (says s.answer) s.state

-- an answer as document 01 names it, with the record
abbrev pub answer : Answer → Record → Told
answer a r = told (says a) r

-- demand 1: "A refusal .. returns the record equal"
abbrev pub refuse : Refusal → Record → Told
refuse why r = answer (Refused why) r
