-- Files compare by device, then by inode, as the definitions say. Assumes nothing.
use Rattle.std.proofs.Common.{◌≡◌, not, arith}
use Rattle.std.proofs.lemmas.Grind.{common_steps}
use Rattle.std.specs.Ordering.{partial_lt, partial_le}
use Rattle.choice.specs.Pick.{◌or◌, ◌and◌}
use Rattle.tail_table.specs.Table.{before}
use Rattle.tail_table.specs.declared.File.{File}
use Rattle.tail_table.specs.contracts.FilePartialOrd.TheImpl as Order

pub lt_before : (a b : File) → partial_lt Order.partial_cmp-value.it a b ≡ before a b
unfolding before ◌or◌ ◌and◌
lt_before a b = grind (arith, common_steps)

pub le_after : (a b : File) → partial_le Order.partial_cmp-value.it a b ≡ not (before b a)
unfolding before ◌or◌ ◌and◌
le_after a b = grind (arith, common_steps)
