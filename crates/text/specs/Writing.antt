-- What is put on a page, which is lent bytes of which the first are in use: bytes, texts, and numbers in decimal. Assumes nothing.
use Rattle.std.specs.Prelude.{ℕ, zero, suc, ◌+◌, ◌/◌, ◌%◌, List, [], ◌∷◌, ◌++◌, ltb, length, set}
use Prim.Native.Char.{code}
use Prim.Native.String.{String, [] as endOfText, ◌∷◌ as ◌⁏◌}
use Rattle.std.specs.Borrow.{MutBor}
use Rattle.choice.specs.Pick.{pick}
use Rattle.numbers.specs.Reading.{zero_byte}
use Rattle.text.specs.declared.Page.{Page}

-- lent bytes of which the first n are in use
abbrev pub page : MutBor (List ℕ) → ℕ → Page
page bytes n = record { bytes = bytes; written = n }

-- the same lent bytes with others in them
abbrev pub holding : MutBor (List ℕ) → List ℕ → MutBor (List ℕ)
holding bytes l = record bytes { now = l }

-- a byte is put after those in use, which are one more then; without room all stays as it is
unfoldable pub put_byte : Page → ℕ → Page
put_byte p byte =
    pick (ltb p.written (length p.bytes.now)) (page (holding p.bytes (set p.bytes.now p.written byte)) (p.written + 1)) p

-- the bytes of a text are put, one after the other
unfoldable pub put_all : Page → List ℕ → Page
put_all p [] = p
put_all p (byte ∷ rest) = put_all (put_byte p byte) rest

-- the bytes of a text
unfoldable pub bytes_of : String → List ℕ
bytes_of endOfText = []
bytes_of (c ⁏ text) = code c ∷ bytes_of text

-- the byte of a newline in ASCII
abbrev pub newline_byte : ℕ
newline_byte = 10

-- a number in decimal, of at most so many digits, with no zero in front
unfoldable pub decimal_within : ℕ → ℕ → List ℕ
decimal_within zero n = []
decimal_within (suc k) n = pick (ltb n 10) ((zero_byte + n) ∷ []) (decimal_within k (n / 10) ++ ((zero_byte + n % 10) ∷ []))

-- the same for a number below 2^64, which has at most 20 digits
abbrev pub decimal_of : ℕ → List ℕ
decimal_of n = decimal_within 20 n
