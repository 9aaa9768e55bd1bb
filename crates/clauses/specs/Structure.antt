-- The clauses of `poll_structure` and `structure_result`, of an asking and of a report alike: t is what it tells of the record r.
-- Assumes nothing.
use Rattle.std.specs.Prelude.{◌+◌, ◌≤◌, ◌<◌, ◌≡◌, true, false, ◌≢◌, Some}
use Rattle.phases.specs.Phases.{none, adopt, has_successor, successor, boundary}
use Rattle.answers.specs.Classes.{Class}
use Rattle.answers.specs.Classes.Class.{refusal}
use Rattle.answers.specs.Classes.StepAnswer.{finished}
use Rattle.record.specs.Answers.{Told}
use Rattle.record.specs.declared.Record.{Record}
use Rattle.tickets.specs.declared.Live.TheVariants.{None}
use Rattle.answers.specs.declared.Refusal.TheVariants.{NotReady}
use Rattle.clauses.specs.Keeping.{SameBatch, Framed}
use Rattle.clauses.specs.Polls.{unfinished}

-- what a changed phase and changed steps imply
pub record Stepping (r s : Record) : Type 0 where
  -- a changed phase implies that there was one
  pub c176 : s.phase.number ≢ r.phase.number → r.phase.number ≢ none
  -- and that the new one is the successor of the old
  pub c177 : s.phase.number ≢ r.phase.number → successor r.phase.number ≡ Some s.phase
  -- and that the old and the new are staged
  pub c178 : s.phase.number ≢ r.phase.number → r.staged ≡ true
  pub c179 : s.phase.number ≢ r.phase.number → s.staged ≡ true
  -- changed forward steps imply that there was a phase, that one is added, and a changed phase
  pub c181 : s.forward ≢ r.forward → r.phase.number ≢ none
  pub c182 : s.forward ≢ r.forward → s.forward ≡ r.forward + 1
  pub c183 : s.forward ≢ r.forward → s.phase.number ≢ r.phase.number
  -- changed recovery steps imply the same
  pub c184 : s.back ≢ r.back → r.phase.number ≢ none
  pub c185 : s.back ≢ r.back → s.back ≡ r.back + 1
  pub c186 : s.back ≢ r.back → s.phase.number ≢ r.phase.number

pub record StructureClauses (r : Record) (t : Told) : Type 0 where
  -- the new state is staged if the old one is
  pub c79 : t.state.staged ≡ r.staged
  -- in a phase with a successor `NotReady` is not given
  pub c83 : has_successor r.phase.number ≡ true → t.class ≢ refusal NotReady
  -- in a phase without a successor, or in none: `old == new`; not staged is in none
  pub c84 : has_successor r.phase.number ≡ false → t.state ≡ r
  pub c84_idle : r.staged ≡ false → has_successor r.phase.number ≡ false
  -- C171 to C173
  pub framed : Framed r t
  -- `new.batch() == old.batch()`
  pub c174 : SameBatch r t.state
  -- `Pending` or `Ready(Err(_))` implies that the phase stays
  pub c175 : unfinished t.class ≡ true → t.state.phase ≡ r.phase
  -- C176 to C186
  pub stepping : Stepping r t.state
  -- `Ready(Ok(true))` implies that the new phase is `Updates`, `Ready` or `Recovered`
  pub c187 : t.class ≡ Class.stepping finished → boundary t.state.phase.number ≡ true

-- document 01: "Done goes to the successor, raises forward (phases 1 to 6) or back (9 to 12)", and its ticket
-- ends; all else but the two lengths stays
pub record Advances (r s : Record) : Type 0 where
  pub phase : s.phase.number ≡ r.phase.number + 1
  pub forward : r.phase.number ≤ adopt → s.forward ≡ r.forward + 1
  pub forward_stays : adopt < r.phase.number → s.forward ≡ r.forward
  pub back : adopt < r.phase.number → s.back ≡ r.back + 1
  pub back_stays : r.phase.number ≤ adopt → s.back ≡ r.back
  pub spent : s.live ≡ None
  pub batch : SameBatch r s
  pub staged : s.staged ≡ r.staged
  pub accepted : s.accepted ≡ r.accepted
  pub version : s.revision ≡ r.revision
