-- Document 01, "What a call answers", and document 02, request 1: the classes of answers with their numbers, and which of them are
-- refusals, successful, granted, tickets, taken and written. No other file tells answers apart by a number. Assumes nothing.
use Rattle.std.specs.Prelude.{ℕ, Bool, true, false, ◌||◌, eqb}
use Rattle.choice.specs.Pick.{◌or◌}
use Rattle.answers.specs.declared.Refusal.{Refusal}
use Rattle.answers.specs.declared.Refusal.TheVariants.{Pending, Idle, Capacity, NotReady, Recovering, BadArea, Damaged, TooMany, Stale, Worn, LogFull, NoStatus, LongCandidate, LongRecovery, LongSnapshot}

-- "step answers"
pub data StepAnswer : Type 0 where
  ticket waiting failed more finished : StepAnswer

-- the cases of an answer, its values aside
pub data Class : Type 0 where
  performed : Class
  refusal : Refusal → Class
  stepping : StepAnswer → Class

-- the table's column "No.", with request 1: "Split TooLong: 14 candidate, 15 recovery, 16 snapshot .. Number 8 is retired"
abbrev pub refusal_number : Refusal → ℕ
refusal_number Pending = 1
refusal_number Idle = 2
refusal_number Capacity = 3
refusal_number NotReady = 4
refusal_number Recovering = 5
refusal_number BadArea = 6
refusal_number Damaged = 7
refusal_number TooMany = 9
refusal_number Stale = 10
refusal_number Worn = 11
refusal_number LogFull = 12
refusal_number NoStatus = 13
refusal_number LongCandidate = 14
refusal_number LongRecovery = 15
refusal_number LongSnapshot = 16

abbrev pub step_number : StepAnswer → ℕ
step_number ticket = 20
step_number waiting = 21
step_number failed = 22
step_number more = 23
step_number finished = 24

abbrev pub number_of : Class → ℕ
number_of performed = 0
number_of (refusal why) = refusal_number why
number_of (stepping s) = step_number s

-- "Numbers 1 to 13 are refusals", and the three that TooLong is split into
abbrev pub refused : Class → Bool
refused performed = false
refused (refusal why) = true
refused (stepping s) = false

-- "any call but asks and reports, performed"
abbrev pub successful : Class → Bool
successful performed = true
successful (refusal why) = false
successful (stepping s) = false

-- a step answer is this one
abbrev pub is_step : StepAnswer → StepAnswer → Bool
is_step this s = eqb (step_number s) (step_number this)

-- "Granted means Ticket or Finished."
abbrev pub grants : StepAnswer → Bool
grants s = is_step ticket s || is_step finished s

abbrev pub granted : Class → Bool
granted performed = false
granted (refusal why) = false
granted (stepping s) = grants s

-- "or a ticket: serial plus one, live."
abbrev pub tickets : StepAnswer → Bool
tickets s = is_step ticket s

abbrev pub ticketed : Class → Bool
ticketed performed = false
ticketed (refusal why) = false
ticketed (stepping s) = tickets s

-- a Done report that is taken "answers Finished .., else More"
abbrev pub takes : StepAnswer → Bool
takes s = is_step more s || is_step finished s

abbrev pub taken : Class → Bool
taken performed = false
taken (refusal why) = false
taken (stepping s) = takes s

-- "Asks and reports answered 4, 5 or 20 to 24 are written": a refusal if it is one of these two
abbrev pub is : Refusal → Refusal → Bool
is this why = eqb (refusal_number why) (refusal_number this)

unfoldable pub refusal_written : Refusal → Bool
refusal_written why = is NotReady why or is Recovering why

abbrev pub step_written : Class → Bool
step_written performed = false
step_written (refusal why) = refusal_written why
step_written (stepping s) = true

-- "in other calls an event is written only if the inner answer is 0"
abbrev pub call_written : Class → Bool
call_written c = successful c
