-- The text of a line, a word and numbers in a row: the driver's page, "parted by single spaces". Assumes nothing.
use Rattle.std.specs.Prelude.{ℕ, Bool, true, not, List, [], ◌∷◌, ◌++◌, eqb, length}
use Rattle.choice.specs.Pick.{pick}
use Rattle.text.specs.Writing.{newline_byte, decimal_of}

-- the byte of a space in ASCII
abbrev pub space_byte : ℕ
space_byte = 32

-- a space, where one is due
unfoldable pub space_if : Bool → List ℕ
space_if due = pick due (space_byte ∷ []) []

-- numbers in decimal: a space before each but the first, and before the first where one is due
unfoldable pub numbers_text : Bool → List ℕ → List ℕ
numbers_text due [] = []
numbers_text due (n ∷ rest) = space_if due ++ (decimal_of n ++ numbers_text true rest)

-- a line: the word, the numbers, with a space between any two of them, and a newline; an empty word is none
unfoldable pub line_text : List ℕ → List ℕ → List ℕ
line_text word numbers = word ++ (numbers_text (not (eqb (length word) 0)) numbers ++ (newline_byte ∷ []))
