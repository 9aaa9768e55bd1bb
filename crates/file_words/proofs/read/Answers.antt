-- `file_words::read` meets its contract. Assumes nothing.
use Rattle.std.proofs.Common.{◌≡◌, ◌∙◌, ap, ◌/◌, length, min, set, get_or, List, [], ℕ, add-one, arith}
use Rattle.std.specs.Int.{from_le_bytes, w64}
use Rattle.file_words.specs.Words.{word_at, words_read, read}
use Rattle.file_words.proofs.Reading.{chunk_word, ends}
use Rattle.file_words.proofs.read.Goals as goal

pub loop-i-preserved : goal.loop-i-preserved
loop-i-preserved c =
    let i = c.loop-i.i in
    let bytes = c.args.bytes.now in
    let word : c.from_le_bytes.result ≡ word_at bytes i =
    c.from_le_bytes.ensures
    ∙ ap (λ (l : List (List ℕ)). from_le_bytes w64 (get_or l i [])) c.as_chunks.ensures.front
    ∙ chunk_word (length bytes / 8) i bytes (omega arith) in
    rw add-one (ap (λ (l : List ℕ). set l i c.from_le_bytes.result) c.loop-i.invariant
    ∙ ap (set (words_read i bytes c.args.words.now) i) word)

pub returns : goal.returns
unfolding read
returns c =
    let whole : c.loop-i.i ≡ min (length c.args.words.now) (length c.args.bytes.now / 8) = omega arith in
    c.loop-i.invariant ∙ ends _ _ _ _ whole
