-- Demand 3: what the Done reports that are taken are for, in the fixed order, and how many there are; and the due asking. Assumes
-- nothing.
use Rattle.std.specs.Prelude.{ℕ, zero, suc, ◌+◌, ◌-◌, Bool, true, false, not, List, [], ◌∷◌, ◌++◌, eqb, ltb}
use Rattle.choice.specs.Pick.{pick, ◌and◌, ◌or◌}
use Rattle.phases.specs.Phases.{none, remove, updates, adopt, recover_remove, has_successor}
use Rattle.record.specs.declared.Record.{Record}
use Rattle.calls.specs.Calls.{Call}
use Rattle.calls.specs.Calls.Work.{structure, update, rollback}
use Rattle.calls.specs.Calls.Call.{begin, ask, report, edit, commit, recover, recover_retained, refresh, stamp, check}
use Rattle.demand_steps.specs.Knowing.{Item}
use Rattle.demand_steps.specs.Knowing.Item.{settle, apply, undo}

-- "5 + n Done reports that are taken (n if update-only)"
abbrev pub planned : Bool → ℕ → ℕ
planned true n = 5 + n
planned false n = n

-- "in the fixed order": the phases 1 to 4, the n updates, phase 6
abbrev pub plan_at : Bool → ℕ → ℕ → Item
plan_at true n i = pick (ltb i 4) (settle (remove + i)) (pick (ltb i (4 + n)) (apply (i - 4)) (settle adopt))
plan_at false n i = apply i

-- "k + 4 further Done reports that are taken (k if update-only)"
abbrev pub planned_back : Bool → ℕ → ℕ
planned_back true k = k + 4
planned_back false k = k

-- "the k undos in reverse order", then the phases 9 to 12
abbrev pub back_at : ℕ → ℕ → Item
back_at k i = pick (ltb i k) (undo (k - 1 - i)) (settle (recover_remove + (i - k)))

-- the first m of a plan
abbrev pub firsts : (ℕ → Item) → ℕ → List Item
firsts plan zero = []
firsts plan (suc m) = firsts plan m ++ (plan m ∷ [])

-- "Due asking: structure in phases with a successor; update in phase 5, or phase 0 not restoring with applied < entries;
-- rollback when restoring with entries > 0."
unfoldable pub due : Record → Call → Bool
due r (ask structure) = has_successor r.phase.number
due r (ask update) = eqb r.phase.number updates or eqb r.phase.number none and not r.restoring and ltb r.applied r.entries
due r (ask rollback) = r.restoring and ltb 0 r.entries
due r (begin structural b) = false
due r (report of t x) = false
due r (edit c o) = false
due r commit = false
due r (recover n) = false
due r recover_retained = false
due r (refresh n) = false
due r (stamp domain) = false
due r (check domain s) = false
