-- The bytes of a file as words, after the page on the driver's script: "eight bytes a word, lowest byte first". Assumes nothing.
use Rattle.std.specs.Prelude.{ℕ, zero, suc, ◌+◌, ◌*◌, ◌/◌, List, length, get_or, set}

-- the bytes of a word, and the numbers that a byte can be
abbrev pub word_bytes : ℕ
word_bytes = 8

abbrev pub byte_range : ℕ
byte_range = 256

-- the word of the bytes from a place on: so many of them, the first the lowest
abbrev pub value_from : ℕ → List ℕ → ℕ → ℕ
value_from zero bytes at = 0
value_from (suc n) bytes at = get_or bytes at 0 + byte_range * value_from n bytes (at + 1)

abbrev pub word_at : List ℕ → ℕ → ℕ
word_at bytes number = value_from word_bytes bytes (word_bytes * number)

-- the first n words of the bytes over the first of those that are lent; a word that has no place there is left out
abbrev pub words_read : ℕ → List ℕ → List ℕ → List ℕ
words_read zero bytes words = words
words_read (suc n) bytes words = set (words_read n bytes words) n (word_at bytes n)

-- all whole words
unfoldable pub read : List ℕ → List ℕ → List ℕ
read bytes words = words_read (length bytes / word_bytes) bytes words
