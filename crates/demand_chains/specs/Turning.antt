-- Demand 3: what a granted rollback fixes until the recovery, and recovery where none was granted. Assumes nothing.
use Rattle.std.specs.Prelude.{ℕ, ◌≡◌, Bool, true, false, not, List, [], ◌∷◌, eqb, length}
use Rattle.choice.specs.Pick.{pick, ◌and◌, ◌or◌}
use Rattle.areas.specs.Areas.{long}
use Rattle.answers.specs.Classes.{successful}
use Rattle.record.specs.declared.Record.{Record}
use Rattle.log_layout.specs.Kinds as kinds
use Rattle.calls.specs.Calls.{step}
use Rattle.calls.specs.Calls.Call.{commit, recover, recover_retained}
use Rattle.calls.specs.Kinds.{kind_of}
use Rattle.demand_steps.specs.Knowing.{Heard, Watch}
use Rattle.demand_chains.specs.Plans.{planned_back}

-- a recovery that is performed
abbrev pub recovers : Heard → Bool
recovers h = (eqb (kind_of h.call) kinds.recover or eqb (kind_of h.call) kinds.recover_retained) and successful h.answer.class

unfoldable pub recovered_in : List Heard → Bool
recovered_in [] = false
recovered_in (h ∷ hs) = recovers h or recovered_in hs

-- "After its first granted rollback, with k updates started": w is known then, or at any time since; later, with no recovery between, it
-- still runs and is turned, the way back is that of the same k, and r, which is reached, is not committed: "4 if not complete", and
-- "Complete means not restoring"
pub record UntilRecovery (w later : Watch) (r : Record) : Type 0 where
  pub running : later.running ≡ true
  pub turned : later.turned ≡ true
  pub structural : later.structural ≡ w.structural
  pub started : later.started ≡ w.started
  pub uncommitted : (step r commit).number ≡ 4

-- "Recover ..: .. 4 if entries > 0 or phase not 0 or 13; 8.", with "16 snapshot" in the place of 8. "Recover from the retained payload:
-- 2, 4 alike". The test says whether all that was started is undone
pub record Recoveries (r : Record) (undone : Bool) : Type 0 where
  pub retained : (step r recover_retained).number ≡ pick undone 0 4
  pub given : (length : ℕ) → (step r (recover length)).number ≡ pick undone (pick (long length) 16 0) 4

-- "the k undos in reverse order", then the phases 9 to 12: all of them
abbrev pub back : Watch → Bool
back w = eqb (length w.undone) (planned_back w.structural w.started)

-- with no rollback granted only an update-only transaction without actions leaves nothing to undo
abbrev pub untouched : Watch → Bool
untouched w = not w.structural and eqb w.size 0
