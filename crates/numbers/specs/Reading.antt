-- A decimal number that is read: what stands in a line from a place on. The driver's page: "A number is one or more digits, leading zeros
-- allowed, nothing else." Assumes nothing.
use Rattle.std.specs.Prelude.{ℕ, ◌+◌, ◌-◌, ◌*◌, Bool, true, false, List, [], ◌∷◌, Option, None, leb, drop}
use Rattle.std.specs.Bool.{then_some}
use Rattle.choice.specs.Pick.{pick, ◌and◌}
use Rattle.numbers.specs.declared.Read.{Read}

-- the bytes of `0` and `9` in ASCII
abbrev pub zero_byte : ℕ
zero_byte = 48

abbrev pub nine_byte : ℕ
nine_byte = 57

-- whether a byte is a digit
unfoldable pub is_digit : ℕ → Bool
is_digit byte = leb zero_byte byte and leb byte nine_byte

-- a number with one digit more at its end
abbrev pub with_digit : ℕ → ℕ → ℕ
with_digit value digit = value * 10 + digit

-- the same, unless it is past the most that is allowed
unfoldable pub grown : ℕ → ℕ → ℕ → Option ℕ
grown value digit most = then_some (leb (with_digit value digit) most) (with_digit value digit)

-- what the digits before a place are worth, where one was seen
abbrev pub ended : Bool → ℕ → ℕ → Option Read
ended seen value next = then_some seen (record { value = value; next = next })

-- the answer of the bytes that are left, by the value of the digits before them, whether there was one, and the place of the first
-- byte left. A digit is put at the end of the value, and there is no number where that is past the most; any other byte, and the
-- end of the line, end the number.
unfoldable pub number_from : ℕ → ℕ → Bool → ℕ → List ℕ → Option Read
number_from most value seen next [] = ended seen value next
number_from most value seen next (byte ∷ rest) =
    pick (is_digit byte)
    (pick (leb (with_digit value (byte - zero_byte)) most)
    (number_from most (with_digit value (byte - zero_byte)) true (next + 1) rest)
    None)
    (ended seen value next)

-- the number that starts at a place of a line, of at most `most`, with the place after it
abbrev pub number_at : List ℕ → ℕ → ℕ → Option Read
number_at line from most = number_from most 0 false from (drop from line)
