-- Demand 3: how many Done reports that are taken lead to the end of a transaction, forward and back, and when there is nothing to take
-- back. Assumes nothing.
use Rattle.std.specs.Prelude.{ℕ, ◌+◌, Bool, true, false, not, eqb}
use Rattle.choice.specs.Pick.{◌and◌}

-- "in the fixed order": those before the first update, of the phases 1 to 4
abbrev pub lead : Bool → ℕ
lead true = 4
lead false = 0

-- "5 + n Done reports that are taken (n if update-only)"
abbrev pub planned : Bool → ℕ → ℕ
planned true n = 5 + n
planned false n = n

-- "k + 4 further Done reports that are taken (k if update-only)"
abbrev pub planned_back : Bool → ℕ → ℕ
planned_back true k = k + 4
planned_back false k = k

-- all of them are taken, forward and back
abbrev pub is_done : Bool → ℕ → ℕ → Bool
is_done structural n done = eqb done (planned structural n)

abbrev pub is_back : Bool → ℕ → ℕ → Bool
is_back structural k undone = eqb undone (planned_back structural k)

-- with no rollback granted only an update-only transaction without actions leaves nothing to take back
abbrev pub untouched : Bool → ℕ → Bool
untouched structural n = not structural and eqb n 0
