-- Whether a line fits a template, and the numbers that it has: what the driver's page says of words, numbers and their ranges.
-- Assumes nothing.
use Rattle.std.specs.Prelude.{ℕ, suc, ◌+◌, Bool, true, false, List, [], ◌∷◌, Option, Some, None, Result, Ok, Err, eqb, ltb, leb, length, get_or, set, replicate}
use Rattle.std.specs.Bool.{then_some}
use Rattle.std.specs.Option.{option_map_or}
use Prim.Native.Char.{code}
use Rattle.choice.specs.Pick.{pick, ◌and◌}
use Rattle.tickets.specs.Live.{rollback}
use Rattle.rows.specs.Rows.{top8, top32, fields}
use Rattle.numbers.specs.Reading.{number_at}
use Rattle.text.specs.Writing.{newline_byte}
use Rattle.numbers.specs.declared.Read.{Read}
use Rattle.holdings.specs.Held.{held_of}
use Rattle.holdings.specs.declared.Area.TheVariants.{Accepted, Table}
use Rattle.matching.specs.declared.Taken.{Taken}
use Rattle.matching.specs.declared.Numbers.{Numbers}

-- the largest number where a template has this capital: "LENGTH at most 5,000 and SEED at most 1,000,000", "COUNT at most 2,200",
-- "an outcome over 2 and a flag over 1 are numbers past their range"; a kind of ticket is at most that of a rollback
unfoldable pub most_at : ℕ → ℕ
most_at mark =
    pick (eqb mark (code "L")) (held_of Accepted)
    (pick (eqb mark (code "C")) (held_of Table)
    (pick (eqb mark (code "S")) 1000000
    (pick (eqb mark (code "O")) 2
    (pick (eqb mark (code "F")) 1
    (pick (eqb mark (code "K")) rollback
    (pick (eqb mark (code "U")) top8
    (pick (eqb mark (code "D")) top32
    18446744073709551615)))))))

-- the letters of the areas, "a, c, r, x, t, l, g or s", and f
abbrev pub letters : List ℕ
letters = code "a" ∷ code "c" ∷ code "r" ∷ code "x" ∷ code "t" ∷ code "l" ∷ code "g" ∷ code "s" ∷ code "f" ∷ []

-- the place of a byte in a list; past its end where it is not in it
unfoldable pub place_in : List ℕ → ℕ → ℕ
place_in [] byte = 0
place_in (x ∷ rest) byte = pick (eqb byte x) 0 (suc (place_in rest byte))

abbrev pub a_number : ℕ → ℕ → Option Taken
a_number value next = Some (record { number = Some value; next = next })

-- the letter of an area is its place among them
unfoldable pub letter_of : ℕ → ℕ → Option Taken
letter_of byte next = pick (ltb (place_in letters byte) (length letters)) (a_number (place_in letters byte) next) None

abbrev pub taken_of : Option Read → Option Taken
taken_of (Some read) = a_number read.value read.next
taken_of None = None

-- any other byte stands for itself
abbrev pub same_as : ℕ → ℕ → ℕ → Option Taken
same_as byte mark next = then_some (eqb byte mark) (record { number = None; next = next })

-- what the line has at a place for a byte of the template
unfoldable pub taken_at : List ℕ → ℕ → ℕ → Option Taken
taken_at line at mark =
    pick (leb (length line) at) None
    (pick (eqb mark (code "B")) (letter_of (get_or line at 0) (at + 1))
    (pick (leb (code "A") mark and leb mark (code "Z")) (taken_of (number_at line at (most_at mark)))
    (same_as (get_or line at 0) mark (at + 1))))

-- a row of numbers, and how many of them were read
abbrev pub so_far : List ℕ → ℕ → Numbers
so_far row count = record { row = row; count = count }

-- a number is put after those that were read; a command has no more than a record has fields
unfoldable pub kept : Numbers → ℕ → Numbers
kept n value = pick (ltb n.count fields) (so_far (set n.row n.count value) (n.count + 1)) n

-- what was taken is put there where it is a number
abbrev pub kept_of : Numbers → Option ℕ → Numbers
kept_of n None = n
kept_of n (Some value) = kept n value

-- the numbers of a line that fits, or those that were read of one that does not
abbrev pub fitted : Bool → List ℕ → Result (List ℕ) (List ℕ)
fitted true row = Ok row
fitted false row = Err row

-- whether the bytes of the line from a place on are as the template says that is left, up to its newline, and no byte too many; with the
-- numbers, one put after the other
unfoldable pub fits_from : List ℕ → Numbers → ℕ → List ℕ → Result (List ℕ) (List ℕ)
fits_from line n at [] = fitted false n.row
fits_from line n at (mark ∷ rest) =
    pick (eqb mark newline_byte) (fitted (eqb at (length line)) n.row)
    (option_map_or (λ taken. fits_from line (kept_of n taken.number) taken.next rest) (taken_at line at mark) (fitted false n.row))

-- before the first number there are zeros
abbrev pub blank : Numbers
blank = so_far (replicate fields 0) 0

-- the whole line, by a template
abbrev pub fits_at : List ℕ → List ℕ → Result (List ℕ) (List ℕ)
fits_at line template = fits_from line blank 0 template
