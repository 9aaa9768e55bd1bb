-- `Batch::successes`, which is not given upstream: the updates that a watcher of the calls has heard reported Done. Assumes nothing.
use Rattle.std.specs.Prelude.{ℕ, ◌+◌, List, [], ◌∷◌}
use Rattle.demand_steps.specs.Knowing.{Item}
use Rattle.demand_steps.specs.Knowing.Item.{settle, apply, undo, unknown}

abbrev pub is_update : Item → ℕ
is_update (settle p) = 0
is_update (apply i) = 1
is_update (undo i) = 0
is_update unknown = 0

-- how many of the Done reports that were taken are for updates
abbrev pub successes : List Item → ℕ
successes [] = 0
successes (i ∷ is) = is_update i + successes is
