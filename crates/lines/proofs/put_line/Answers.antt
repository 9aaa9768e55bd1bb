-- `lines::put_line` meets its contract: the word, the numbers, the newline. Assumes nothing.
use Rattle.lines.proofs.Turns.{line}
use Rattle.lines.proofs.put_line.Goals as goal

pub returns : goal.returns
returns c = line _ _ _ c.put_text.ensures (rw c.is_empty.ensures at c.put_numbers.ensures) c.put_byte.ensures
