-- `printing::put_record` meets its contract. Assumes nothing.
use Rattle.printing.specs.Printing.{record_text}
use Rattle.printing.proofs.put_record.Goals as goal

pub returns : goal.returns
unfolding record_text
returns c = rw (← c.numbers.ensures) c.put_line.ensures
