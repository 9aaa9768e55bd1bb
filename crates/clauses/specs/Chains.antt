-- The clauses that are of a whole transaction: the ghost lists of structure work, and what a recovery comes after. Here w is what a
-- watcher of the calls knows when the record r is reached. Assumes nothing.
use Rattle.std.specs.Prelude.{ℕ, ◌≡◌, List, [], ◌∷◌, ◌++◌, take}
use Rattle.phases.specs.Phases.{remove, settle_removed, mount, settle_mounted, adopt, recover_remove, recover_settle_removed, recover_mount, recover_settle_mounted}
use Rattle.record.specs.declared.Record.{Record}
use Rattle.demand_steps.specs.Knowing.{Item, Watch}
use Rattle.demand_steps.specs.Knowing.Item.{settle, apply, undo, unknown}
use Rattle.demand_chains.specs.Plans.{planned_back, back_at, firsts}

-- C36, C37: `forward_stages()` and `recovery_stages()`
abbrev pub forward_stages : List ℕ
forward_stages = remove ∷ settle_removed ∷ mount ∷ settle_mounted ∷ adopt ∷ []

abbrev pub recovery_stages : List ℕ
recovery_stages = recover_remove ∷ recover_settle_removed ∷ recover_mount ∷ recover_settle_mounted ∷ []

abbrev pub stage_of : Item → List ℕ
stage_of (settle p) = p ∷ []
stage_of (apply i) = []
stage_of (undo i) = []
stage_of unknown = []

-- the phases among what the Done reports that were taken are for: of those before a rollback was granted it is `forward_steps`, and of
-- those since `recovery_steps`
abbrev pub stages : List Item → List ℕ
stages [] = []
stages (i ∷ is) = stage_of i ++ stages is

-- each list is the start of the fixed one, as long as its count says
pub record Steps (done undone : List Item) (forward back : ℕ) : Type 0 where
  pub c46 : stages done ≡ take forward forward_stages
  pub c48 : stages undone ≡ take back recovery_stages

abbrev pub Listed : Watch → Record → Type 0
Listed w r = Steps w.done w.undone r.forward r.back

-- C243: every started update's inverse was reported done, the last one first, and then the phases 9 to 12 if structural
abbrev pub Undone : Watch → Type 0
Undone w = w.undone ≡ firsts (back_at w.started) (planned_back w.structural w.started)
