-- Chains of calls as they are sent, refused ones included: with areas of a wrong size, through a log whose head is not sound, or
-- through one that is full. Assumes nothing.
use Rattle.std.specs.Prelude.{Bool, true, false, List, [], ◌∷◌}
use Rattle.choice.specs.Pick.{pick, ◌and◌}
use Rattle.answers.specs.Classes.{Class}
use Rattle.record.specs.Answers.{Told, refuse}
use Rattle.record.specs.declared.Record.{Record}
use Rattle.answers.specs.declared.Refusal.TheVariants.{LogFull}
use Rattle.step_opens.specs.Opening.{open_step}
use Rattle.calls.specs.Calls.{Call, step_with, AnyCall}
use Rattle.calls.specs.Calls.AnyCall.{opens, calls}
use Rattle.calls.specs.Kinds.{kind_of, written_as}
use Rattle.demand_steps.specs.Knowing.{Heard, hears}

-- a call; whether all that it is lent has the right size, and, where it goes through a log, whether the log's head is sound and
-- whether it is full
pub record Sent : Type 0 where
  pub call : Call
  pub sized : Bool
  pub sound : Bool
  pub full : Bool

-- a call without a log, "every area of the right size"
abbrev pub plainly : Call → Sent
plainly c = record { call = c; sized = true; sound = true; full = false }

-- whether a call's answer is written as an event
abbrev pub written : Call → Class → Bool
written c answer = written_as (kind_of c) answer

-- the step; "Where an entry does not fit, 12 is the whole answer"
unfoldable pub answered : Record → Sent → Told
answered r s =
    let t = step_with s.sized s.sound r s.call in
    pick (written s.call t.class and s.full) (refuse LogFull r) t

-- "In one chain of calls, each given what the last left": the record after them, and what is heard of them
unfoldable pub after_sent : Record → List Sent → Record
after_sent r [] = r
after_sent r (s ∷ ss) = after_sent (answered r s).state ss

unfoldable pub heard_sent : Record → List Sent → List Heard
heard_sent r [] = []
heard_sent r (s ∷ ss) = hears s.call (answered r s) ∷ heard_sent (answered r s).state ss

-- what any call answers, an opening too, by the same tests
abbrev pub answered_any : Bool → Bool → Bool → Record → AnyCall → Told
answered_any sized sound full r (opens given accepted) = open_step sized given accepted
answered_any sized sound full r (calls c) = answered r (record { call = c; sized = sized; sound = sound; full = full })
