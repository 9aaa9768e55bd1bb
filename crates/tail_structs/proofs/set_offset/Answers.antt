-- `tail_structs::set_offset` meets its contract: it writes the one record, and past the end the definition changes nothing either.
-- Assumes nothing.
use Rattle.std.proofs.Common.{refl, sym, arith}
use Rattle.std.proofs.Math.Seq.{set_out}
use Rattle.tail_structs.specs.Structs.{offset_set}
use Rattle.tail_structs.proofs.set_offset.Goals as goal

pub returns-then-at-tails : goal.returns-then-at-tails
unfolding offset_set
returns-then-at-tails c = refl

pub returns-else-at-tails : goal.returns-else-at-tails
unfolding offset_set
returns-else-at-tails c = sym (set_out _ c.args.at _ (omega arith))
