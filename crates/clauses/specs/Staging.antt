-- The clauses of `new`, `begin`, `begin_structural`, `pending_mut` and `work`: t is what the call tells. Here b are the lengths of the
-- candidate and the recovery payload and the number of updates, and c and o those of an edit. Assumes nothing.
use Rattle.std.specs.Prelude.{ℕ, ◌≤◌, ◌≡◌, Bool, true, false, ◌≢◌, ◌↔◌}
use Rattle.choice.specs.Pick.{pick}
use Rattle.areas.specs.Areas.{area_size}
use Rattle.batch.specs.Batch.{limit}
use Rattle.answers.specs.Classes.{refused}
use Rattle.answers.specs.Classes.Class.{performed, refusal}
use Rattle.record.specs.Answers.{Told}
use Rattle.record.specs.Fields.{top, with_lengths}
use Rattle.record.specs.declared.Record.{Record}
use Rattle.record.specs.declared.Opening.{Opening}
use Rattle.record.specs.declared.Beginning.{Beginning}
use Rattle.answers.specs.declared.Refusal.TheVariants.{Pending, Idle, Capacity}
use Rattle.wholeness.specs.Whole.{whole}
use Rattle.step_opens.specs.Opening.{opening}
use Rattle.step_begins.specs.Beginning.{first_phase}
use Rattle.clauses.specs.Keeping.{gained, SameBatch, Framed}

-- `new`, opened with a payload of length l, the area of the right size or not
pub record OpenClauses (sizes : Bool) (given : Opening) (l : ℕ) (t : Told) : Type 0 where
  -- no refusal but 6 and 16
  pub fits : (t.class ≡ performed) ↔ ((sizes ≡ true) × (l ≤ area_size))
  -- `out.wf()`
  pub c107 : whole t.state ≡ true
  -- `out.accepted() == current`, by its length
  pub c108 : t.class ≡ performed → t.state.accepted ≡ l
  -- `out.version()` is the given one
  pub c109 : t.class ≡ performed → t.state.revision ≡ given.revision
  -- not staged, and no entries
  pub c110 : t.state.staged ≡ false
  pub c111 : t.state.entries ≡ 0
  -- stronger: the whole record, in which all else is 0, false or none
  pub c111_record : t.class ≡ performed → t.state ≡ opening given l

-- neither the revision nor, by request 3, the count of replacements is at its maximum
abbrev pub Room : Record → Type 0
Room r = (r.revision ≢ top) × (r.replacements ≢ top)

-- when a begin is ok: not staged, `version() < u64::MAX` and the count below its maximum too, and none of 14, 15 and 9
pub record CanBegin (r : Record) (b : Beginning) : Type 0 where
  pub idle : r.staged ≡ false
  pub room : Room r
  pub candidate : b.candidate ≤ area_size
  pub recovery : b.recovery ≤ area_size
  pub few : b.actions ≤ limit

-- what ok implies of the new state
pub record Begun (structural : Bool) (b : Beginning) (s : Record) : Type 0 where
  -- no structural phase; or `Remove` (C166)
  pub c148 : s.phase.number ≡ first_phase structural
  -- `new.staged() == Some(Pending {candidate, recovery})` (also C164)
  pub c149 : s.staged ≡ true
  pub c149_candidate : s.candidate ≡ b.candidate
  pub c149_recovery : s.recovery ≡ b.recovery
  -- nothing applied, nothing attempted, not restoring
  pub c150 : s.applied ≡ 0
  pub c151 : s.attempted ≡ 0
  pub c152 : s.restoring ≡ false
  -- as many entries as updates (also C165)
  pub c153 : s.entries ≡ b.actions

-- `begin`, and where the flag is set `begin_structural`
pub record BeginClauses (structural : Bool) (r : Record) (b : Beginning) (t : Told) : Type 0 where
  -- C144 to C146, C160 to C162
  pub framed : Framed r t
  -- ok exactly if .. (also C159; C141)
  pub c147 : (t.class ≡ performed) ↔ CanBegin r b
  -- C148 to C153, C164 to C166
  pub ok : t.class ≡ performed → Begun structural b t.state
  -- an error implies `new == old` (also C163)
  pub c154 : refused t.class ≡ true → t.state ≡ r
  -- an error is `Pending` if staged and `Capacity` if not (also C142)
  pub c157 : refused t.class ≡ true → gained t.class ≡ false → t.class ≡ refusal (pick r.staged Pending Capacity)

-- `pending_mut` and `work`, as edit
pub record EditClauses (r : Record) (c o : ℕ) (t : Told) : Type 0 where
  -- C123, C125, C126; C132, C135, C136
  pub framed : Framed r t
  -- `new.batch() == old.batch()` (also C133)
  pub c124 : SameBatch r t.state
  -- document 01: "All else, phase included, is kept.", and a refusal keeps the whole record (also C132)
  pub c123_record : t.class ≡ performed → t.state ≡ with_lengths r.accepted c o r
  pub c123_refused : refused t.class ≡ true → t.state ≡ r
  -- some implies that the staged payloads are those that are given, by their lengths (also C138)
  pub c128 : t.class ≡ performed → (t.state.candidate ≡ c) × (t.state.recovery ≡ o)
  -- none implies that the old and the new are not staged (also C139, C140)
  pub c129 : t.class ≡ refusal Idle → r.staged ≡ false
  pub c130 : t.class ≡ refusal Idle → t.state.staged ≡ false
