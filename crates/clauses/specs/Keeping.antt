-- What clauses of several functions say alike: which refusals they gain, wholeness, and what a call keeps. Assumes nothing.
use Rattle.std.specs.Prelude.{◌≡◌, Bool, true, false, not, ◌||◌}
use Rattle.answers.specs.Classes.{Class, is}
use Rattle.answers.specs.Classes.Class.{performed, refusal, stepping}
use Rattle.record.specs.Answers.{Told}
use Rattle.record.specs.declared.Record.{Record}
use Rattle.answers.specs.declared.Refusal.{Refusal}
use Rattle.answers.specs.declared.Refusal.TheVariants.{Pending, Idle, Capacity, NotReady, Recovering, NoStatus}
use Rattle.wholeness.specs.Whole.{whole}

-- "Iff clauses gain the refusals 6 to 12; the others hold where none of these is given.": 14, 15 and 16 among them, in the place of 8
abbrev pub gains : Refusal → Bool
gains why = not (is Pending why || is Idle why || is Capacity why || is NotReady why || is Recovering why || is NoStatus why)

abbrev pub gained : Class → Bool
gained performed = false
gained (refusal why) = gains why
gained (stepping s) = false

-- `staged()`: none, or the two payloads, here by their lengths
pub record SameStaged (r s : Record) : Type 0 where
  pub mark : s.staged ≡ r.staged
  pub candidate : s.candidate ≡ r.candidate
  pub recovery : s.recovery ≡ r.recovery

-- `batch()`, the table aside
pub record SameBatch (r s : Record) : Type 0 where
  pub entries : s.entries ≡ r.entries
  pub applied : s.applied ≡ r.applied
  pub attempted : s.attempted ≡ r.attempted
  pub restoring : s.restoring ≡ r.restoring

-- `new.wf()` (C89, C100, C123, C132, C144, C160, C171), `new.accepted() == old.accepted()` (C90, C101, C125, C135, C145, C161, C172) and
-- `new.version() == old.version()` (C91, C102, C126, C136, C146, C162, C173)
pub record Framed (r : Record) (t : Told) : Type 0 where
  pub wf : whole t.state ≡ true
  pub accepted : t.state.accepted ≡ r.accepted
  pub version : t.state.revision ≡ r.revision
