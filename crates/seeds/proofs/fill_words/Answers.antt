-- `seeds::fill_words` meets its contract: to fill what is left stays what it was at the start. Assumes nothing.
use Rattle.std.proofs.Common.{refl, ◌∙◌, arith}
use Rattle.seeds.proofs.Seeding.{seed_start, seed_next, seed_over}
use Rattle.seeds.proofs.fill_words.Goals as goal

pub loop-i-init : goal.loop-i-init
loop-i-init c = seed_start _ _ _ _

pub loop-i-preserved : goal.loop-i-preserved
loop-i-preserved c =
    seed_next _ c.args.named.count _ c.loop-i.i c.loop-i.words (omega arith) (omega arith) refl ∙ c.loop-i.invariant

pub returns : goal.returns
returns c = seed_over _ _ _ _ _ (omega arith) ∙ c.loop-i.invariant
