-- Document 01, "Gaps read in the contracts": what upstream leaves open and the steps here decide. t is what a call tells of the
-- record r. Assumes nothing.
use Rattle.std.specs.Prelude.{ℕ, ◌+◌, ◌≤◌, ◌<◌, ◌≡◌, true, false, not, List, [], ◌∷◌, ◌≢◌, eqb, ltb}
use Rattle.choice.specs.Pick.{◌or◌}
use Rattle.phases.specs.Phases.{none, remove, updates, ready, undo, recover_remove, recovered, has_successor, boundary}
use Rattle.areas.specs.Areas.{area_size}
use Rattle.batch.specs.Batch.{limit}
use Rattle.answers.specs.Classes.{Class, StepAnswer, refused}
use Rattle.answers.specs.Classes.Class.{performed, refusal, stepping}
use Rattle.record.specs.Answers.{Told}
use Rattle.record.specs.Leaves.{Leaves}
use Rattle.record.specs.Fields.{top}
use Rattle.record.specs.declared.Record.{Record}
use Rattle.record.specs.declared.Beginning.{Beginning}
use Rattle.answers.specs.declared.Refusal.TheVariants as why
use Rattle.clauses.specs.Keeping.{SameStaged}
use Rattle.clauses.specs.Structure.{Advances}
use Rattle.clauses.specs.Staging.{Room, CanBegin}
use Rattle.clauses.specs.Ending.{CanRecover}

-- "`poll_structure`: success need not advance": here a Done report that is taken goes on by one phase and one count, ends its ticket,
-- and answers Finished at a boundary and else More
pub record Succeeds (r : Record) (t : Told) : Type 0 where
  pub onward : Advances r t.state
  pub finished : boundary t.state.phase.number ≡ true → t.class ≡ stepping StepAnswer.finished
  pub more : boundary t.state.phase.number ≡ false → t.class ≡ stepping StepAnswer.more

-- "the answer is nearly free where no callback runs": here it is fixed by the phase, and by the serial where a ticket is due
pub record StructureAsked (r : Record) (t : Told) : Type 0 where
  pub not_ready : eqb r.phase.number none or eqb r.phase.number updates or eqb r.phase.number undo ≡ true → t.class ≡ refusal why.NotReady
  pub finished : eqb r.phase.number ready or eqb r.phase.number recovered ≡ true → t.class ≡ stepping StepAnswer.finished
  pub ticket : has_successor r.phase.number ≡ true → r.serial ≢ top → (t.class ≡ stepping StepAnswer.ticket) × (t.values ≡ (r.serial + 1) ∷ r.phase.number ∷ [])
  pub worn : has_successor r.phase.number ≡ true → r.serial ≡ top → t.class ≡ refusal why.Worn
  -- C25, C233: the staged payloads are as they were
  pub staged : SameStaged r t.state

-- "`poll_update` .. and `poll_rollback`: only wf bounds the phase afterwards": here one phase becomes another exactly where the answer
-- is Finished, and every other phase stays: 5 becomes 6 (ask update, report update), 8 becomes 9 (report rollback)
pub record AtFinished (from to : ℕ) (r : Record) (t : Told) : Type 0 where
  pub becomes : t.class ≡ stepping StepAnswer.finished → r.phase.number ≡ from → t.state.phase.number ≡ to
  pub stays : t.class ≢ stepping StepAnswer.finished → t.state.phase.number ≡ r.phase.number
  pub elsewhere : r.phase.number ≢ from → t.state.phase.number ≡ r.phase.number

-- and an asked rollback turns the phases 1 to 7 to 9, or to 8 where something was attempted; 0 and 8 stay, and 9 to 13 change nothing
pub record RollbackAsked (r : Record) (t : Told) : Type 0 where
  pub empty : remove ≤ r.phase.number → r.phase.number ≤ ready → r.attempted ≡ 0 → (t.class ≡ stepping StepAnswer.finished) × (t.state.phase.number ≡ recover_remove)
  pub some : remove ≤ r.phase.number → r.phase.number ≤ ready → 0 < r.attempted → r.serial ≢ top → (t.class ≡ stepping StepAnswer.ticket) × (t.state.phase.number ≡ undo)
  pub flat : r.phase.number ≡ none → t.state.phase.number ≡ none
  pub undoing : r.phase.number ≡ undo → t.state.phase.number ≡ undo
  pub behind : recover_remove ≤ r.phase.number → (t.class ≡ stepping StepAnswer.finished) × (t.state ≡ r)
  pub worn : r.phase.number < recover_remove → 0 < r.attempted → r.serial ≡ top → (t.class ≡ refusal why.Worn) × (t.state ≡ r)

-- "`begin_structural`: nothing on what `Rejected` holds": here each answer has its case, for both begins
pub data BeginAnswer (r : Record) (b : Beginning) : Class → Type 0 where
  pending : r.staged ≡ true → BeginAnswer r b (refusal why.Pending)
  capacity : r.staged ≡ false → eqb r.revision top or eqb r.replacements top ≡ true → BeginAnswer r b (refusal why.Capacity)
  long_candidate : r.staged ≡ false → Room r → area_size < b.candidate → BeginAnswer r b (refusal why.LongCandidate)
  long_recovery : r.staged ≡ false → Room r → b.candidate ≤ area_size → area_size < b.recovery → BeginAnswer r b (refusal why.LongRecovery)
  too_many : r.staged ≡ false → Room r → b.candidate ≤ area_size → b.recovery ≤ area_size → limit < b.actions → BeginAnswer r b (refusal why.TooMany)
  begins : CanBegin r b → BeginAnswer r b performed

-- and a refused one holds all that it was lent, while one that is performed starts the batch at zero: v is what a begin leaves
pub record Rejects (r : Record) (b : Beginning) (lent : List (List ℕ)) (v : Leaves) : Type 0 where
  pub answered : BeginAnswer r b v.told.class
  pub same : refused v.told.class ≡ true → (v.told.state ≡ r) × (v.lent ≡ lent)
  pub zero : v.told.class ≡ performed → (v.told.state.applied ≡ 0) × (v.told.state.attempted ≡ 0) × (v.told.state.restoring ≡ false)

-- "`recover_with`: which error is open": here each answer has its case, for both recoveries, to a payload of length n
pub data RecoverAnswer (r : Record) (n : ℕ) : Class → Type 0 where
  idle : r.staged ≡ false → RecoverAnswer r n (refusal why.Idle)
  not_ready : r.staged ≡ true → ltb 0 r.entries or not (eqb r.phase.number none or eqb r.phase.number recovered) ≡ true →
      RecoverAnswer r n (refusal why.NotReady)
  long_snapshot : r.staged ≡ true → r.entries ≡ 0 → eqb r.phase.number none or eqb r.phase.number recovered ≡ true → area_size < n →
      RecoverAnswer r n (refusal why.LongSnapshot)
  recovers : CanRecover r n → RecoverAnswer r n performed
