-- `tails::tail_at` meets its contract. Assumes nothing.
use native.Mathlib.Omega.{arith}
use Rattle.tail_sweeps.proofs.Words.{tail_there, none_there}
use Rattle.tails.proofs.tail_at.Goals as goal

pub returns-then-words-i : goal.returns-then-words-i
returns-then-words-i c = let a = c.args in none_there a.words.now a.i c.if-words-i.true

pub returns : goal.returns
returns c = let a = c.args in tail_there a.words.now a.i (omega arith)
