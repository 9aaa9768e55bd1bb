-- The upstream types and specs that are tables here: the phases' successors and boundaries, and what `protocol` and `wf` say of a
-- record. Assumes nothing.
use Rattle.std.specs.Prelude.{ℕ, ◌≤◌, ◌<◌, ◌≡◌, Bool, true, false, List, [], ◌∷◌, Option, Some, None}
use Rattle.phases.specs.Phases.{none, remove, settle_removed, mount, settle_mounted, updates, adopt, ready, undo, recover_remove, recover_settle_removed, recover_mount, recover_settle_mounted, recovered}
use Rattle.phases.specs.declared.Phase.{Phase}
use Rattle.record.specs.Fields.{top}
use Rattle.record.specs.declared.Record.{Record}
use Rattle.tickets.specs.declared.Live.TheVariants as Ticket
use Rattle.wholeness.specs.Whole.{counts_fit, restoring_fits}

-- none, and the thirteen phases in upstream's order
abbrev pub phases : List ℕ
phases = 0 ∷ 1 ∷ 2 ∷ 3 ∷ 4 ∷ 5 ∷ 6 ∷ 7 ∷ 8 ∷ 9 ∷ 10 ∷ 11 ∷ 12 ∷ 13 ∷ []

-- a successor's number, 0 for none
abbrev pub phase_number : Option Phase → ℕ
phase_number (Some next) = next.number
phase_number None = 0

-- C9 to C18: the successor of each
abbrev pub successors : List ℕ
successors = 0 ∷ 2 ∷ 3 ∷ 4 ∷ 5 ∷ 0 ∷ 7 ∷ 0 ∷ 0 ∷ 10 ∷ 11 ∷ 12 ∷ 13 ∷ 0 ∷ []

-- C20: whether each is a boundary
abbrev pub boundaries : List Bool
boundaries = false ∷ false ∷ false ∷ false ∷ false ∷ true ∷ false ∷ true ∷ false ∷ false ∷ false ∷ false ∷ false ∷ true ∷ []

-- `protocol()`, of phase p, forward f and back b: the lengths of `forward_steps` and `recovery_steps` in each phase
pub record Protocol (p f b : ℕ) : Type 0 where
  pub c45 : f ≤ 5
  pub c47 : b ≤ 4
  pub c49 : p ≡ none → f ≡ 0
  pub c50 : p ≡ none → b ≡ 0
  pub c51 : p ≡ remove → f ≡ 0
  pub c52 : p ≡ remove → b ≡ 0
  pub c53 : p ≡ settle_removed → f ≡ 1
  pub c54 : p ≡ settle_removed → b ≡ 0
  pub c55 : p ≡ mount → f ≡ 2
  pub c56 : p ≡ mount → b ≡ 0
  pub c57 : p ≡ settle_mounted → f ≡ 3
  pub c58 : p ≡ settle_mounted → b ≡ 0
  pub c59 : p ≡ updates → f ≡ 4
  pub c60 : p ≡ updates → b ≡ 0
  pub c61 : p ≡ adopt → f ≡ 4
  pub c62 : p ≡ adopt → b ≡ 0
  pub c63 : p ≡ ready → f ≡ 5
  pub c64 : p ≡ ready → b ≡ 0
  pub c65 : p ≡ undo → b ≡ 0
  pub c65_forward : p ≡ undo → 4 ≤ f
  pub c66 : p ≡ recover_remove → b ≡ 0
  pub c67 : p ≡ recover_settle_removed → b ≡ 1
  pub c68 : p ≡ recover_mount → b ≡ 2
  pub c69 : p ≡ recover_settle_mounted → b ≡ 3
  pub c70 : p ≡ recovered → b ≡ 4

-- `wf()`
pub record WellFormed (r : Record) : Type 0 where
  -- `protocol()` holds
  pub c71 : Protocol r.phase.number r.forward r.back
  -- `batch().wf()`, as document 01's rules on the counts and on restoring
  pub c72 : counts_fit r.entries r.applied r.attempted ≡ true
  pub c72_restoring : restoring_fits r.restoring r.phase.number r.entries r.applied r.attempted ≡ true
  -- staged: `version() < u64::MAX`
  pub c73 : r.staged ≡ true → r.revision < top
  -- request 3: "a staged record at that maximum is Damaged"
  pub c73_replacements : r.staged ≡ true → r.replacements < top
  -- not staged: no entries, no structural phase, and no live ticket either
  pub c74 : r.staged ≡ false → r.entries ≡ 0
  pub c75 : r.staged ≡ false → r.phase.number ≡ none
  pub c75_ticket : r.staged ≡ false → r.live ≡ Ticket.None
