-- `printing::put_reply` meets its contract. Assumes nothing.
use Rattle.printing.specs.Printing.{reply_text}
use Rattle.printing.proofs.put_reply.Goals as goal

pub returns : goal.returns
unfolding reply_text
returns c = rw (← c.front.ensures) c.put_line.ensures
