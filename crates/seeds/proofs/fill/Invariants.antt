-- `seeds::fill` meets its contract: to fill what is left stays what it was at the start. Assumes nothing.
use Rattle.std.proofs.Common.{◌≡◌, ◌+◌, ◌%◌}
use Rattle.seeds.specs.Seeds.{payload_over}
use Rattle.seeds.proofs.Seeding.{seeded_from}
use Rattle.seeds.proofs.fill.Given as goal

abbrev pub invariant-loop-i : goal.invariant-loop-i
invariant-loop-i l = (l.value ≡ (l.fn.named.seed + l.i) % 251)
    × (seeded_from 251 l.fn.named.count l.fn.named.seed l.i l.bytes ≡ payload_over l.fn.named.count l.fn.named.seed l.initial.bytes)
