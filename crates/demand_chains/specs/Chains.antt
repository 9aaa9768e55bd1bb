-- Chains of calls, each given what the last left, and what is heard of them: the calls and their answers. Assumes nothing.
use Rattle.std.specs.Prelude.{List, [], ◌∷◌}
use Rattle.record.specs.declared.Record.{Record}
use Rattle.calls.specs.Calls.{Call, step}
use Rattle.demand_steps.specs.Knowing.{Heard, hears}

-- "In one chain of calls, each given what the last left": the record after them
unfoldable pub after : Record → List Call → Record
after r [] = r
after r (c ∷ cs) = after (step r c).state cs

unfoldable pub heard : Record → List Call → List Heard
heard r [] = []
heard r (c ∷ cs) = hears c (step r c) ∷ heard (step r c).state cs
