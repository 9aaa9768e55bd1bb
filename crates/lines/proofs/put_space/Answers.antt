-- `lines::put_space` meets its contract. Assumes nothing.
use Rattle.choice.specs.Pick.{pick}
use Rattle.text.specs.Writing.{put_all}
use Rattle.lines.specs.Lines.{space_if}
use Rattle.lines.proofs.put_space.Goals as goal

pub returns-then-due : goal.returns-then-due
unfolding put_all space_if pick
returns-then-due c = rw c.if-due.true c.put_byte.ensures

pub returns-else-due : goal.returns-else-due
unfolding put_all space_if pick
returns-else-due c = rw c.if-due.false
