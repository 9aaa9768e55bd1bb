-- The cases P1 to P12 hold of the definitions: one statement over their list, computed. Assumes nothing.
use mathlib.Core.Path.{◌≡◌, refl}
use mathlib.Core.Bool.{true}
use Rattle.demand_cases.specs.Cases.{cases, hold_all}
use Rattle.demand_cases.proofs.Computing.{called}

pub cases_hold : hold_all cases ≡ true
unfolding cases called
cases_hold = refl
