-- `record::Record::adopting` meets its contract. Assumes nothing.
use borrow.Author.Tests.{eq-eqb, ne_eqb}
use Rattle.choice.specs.Pick.{pick}
use Rattle.record.specs.Fields.{adopting}
use Rattle.record.proofs.Record.adopting.Goals as goal

pub returns-then-self-eq-UPDATES : goal.returns-then-self-eq-UPDATES
unfolding adopting pick
returns-then-self-eq-UPDATES c = simp (eq-eqb _ _ c.if-self-eq-UPDATES.true)

pub returns-else-self-eq-UPDATES : goal.returns-else-self-eq-UPDATES
unfolding adopting pick
returns-else-self-eq-UPDATES c = simp (ne_eqb _ _ c.if-self-eq-UPDATES.false)
