-- `plain::look` meets its contract. The invariant: what is left to go through, from what was taken, comes to what the whole does. Assumes nothing.
use Prim.Native.Nat.{◌-◌}
use mathlib.Core.Path.{◌≡◌}
use Rattle.plain.specs.Looking.{looks}
use Rattle.plain.proofs.Keeping.{Kept}
use Rattle.plain.proofs.look.Given as goal

abbrev pub invariant-loop-at : goal.invariant-loop-at
invariant-loop-at l = (looks (l.events - l.at) l.words l.at l.taken ≡ looks l.events l.words 0 l.initial.taken) × Kept l.at l.taken
