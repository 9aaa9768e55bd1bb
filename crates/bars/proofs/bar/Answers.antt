-- `bars::bar` meets its contract. Assumes nothing.
use Rattle.choice.specs.Pick.{pick}
use Rattle.bars.proofs.bar.Goals as goal

pub returns-then-test : goal.returns-then-test
unfolding pick
returns-then-test g c = simp c.if-test.true

pub returns-else-test : goal.returns-else-test
unfolding pick
returns-else-test g c = simp c.if-test.false
