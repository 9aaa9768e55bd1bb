-- `replies::of_answer` meets its contract. Assumes nothing.
use Rattle.replies.proofs.of_answer.Goals as goal

pub returns-in-Done : goal.returns-in-Done
returns-in-Done c = simp (c.of_done.ensures, c.in-Done.is)

pub returns-in-Ticket : goal.returns-in-Ticket
returns-in-Ticket c = simp (c.row.ensures, c.number-number.ensures, c.in-Ticket.is)

pub returns-in-Failed : goal.returns-in-Failed
returns-in-Failed c = simp (c.row-in-Failed.ensures, c.number-number.ensures, c.in-Failed.is)

pub returns-in-Refused : goal.returns-in-Refused
returns-in-Refused c = simp (c.of_refusal.ensures, c.in-Refused.is)

pub returns-in-Waiting : goal.returns-in-Waiting
returns-in-Waiting c = simp (c.bare.ensures, c.number-number.ensures, c.in-Waiting.is)

pub returns-in-More : goal.returns-in-More
returns-in-More c = simp (c.bare-in-More.ensures, c.number-number.ensures, c.in-More.is)

pub returns-in-Finished : goal.returns-in-Finished
returns-in-Finished c = simp (c.bare-in-Finished.ensures, c.number-number.ensures, c.in-Finished.is)
