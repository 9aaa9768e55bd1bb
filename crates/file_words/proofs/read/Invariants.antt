-- `file_words::read` meets its contract. The invariant: the first i words are read. Assumes nothing.
use Rattle.std.proofs.Common.{◌≡◌}
use Rattle.file_words.specs.Words.{words_read}
use Rattle.file_words.proofs.read.Given as goal

abbrev pub invariant-loop-i : goal.invariant-loop-i
invariant-loop-i l = l.words ≡ words_read l.i l.bytes l.initial.words
