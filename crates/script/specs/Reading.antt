-- The templates of the commands, and what the driver's page says of a line before a command is looked for in it. Assumes nothing.
use Rattle.std.specs.Prelude.{ℕ, List, [], ◌∷◌, ◌++◌, eqb, ltb, length, get_or}
use Rattle.std.specs.Option.{is_some}
use Prim.Native.Char.{code}
use Prim.Native.String.{String}
use Rattle.choice.specs.Pick.{pick}
use Rattle.text.specs.Writing.{newline_byte, bytes_of}
use Rattle.templates.specs.Finding.{first_fitting}
use Rattle.commands.specs.declared.Command.{Command}
use Rattle.commands.specs.declared.Command.TheVariants.{Nothing, Bad}

-- the bytes of texts with a newline after each
unfoldable pub lines_of : List String → List ℕ
lines_of [] = []
lines_of (text ∷ rest) = bytes_of text ++ (newline_byte ∷ lines_of rest)

-- the commands of the page, each after a key of its own. A capital stands for a number: N any, L a length and C a count of at most what is
-- held, S a seed, O an outcome, F a flag, U and D fields of 8 and 32 bits, K a kind of ticket; B for the letter of an area
unfoldable pub templates : List ℕ
templates =
    lines_of
    (".show" ∷
    "llend B N" ∷
    "pput B N N" ∷
    "ffill L:S" ∷
    "=record N N N N N F U U U D D D F K N N" ∷
    "ttails N" ∷
    "oopen N N N L:S" ∷
    "bbegin L:S L:S C:S" ∷
    "Bbegin-structural L:S L:S C:S" ∷
    "eedit L:S L:S" ∷
    "Sreport-structure N O N L:S L:S" ∷
    "1ask-structure" ∷
    "2ask-update" ∷
    "3ask-rollback" ∷
    "Ureport-update N O N N" ∷
    "Vreport-rollback N O N N" ∷
    "ccommit" ∷
    "rrecover N" ∷
    "Rrecover-retained" ∷
    "nrefresh N" ∷
    "sstamp N" ∷
    "?check N N N N" ∷
    "Llink N F" ∷
    "Iinitialize N" ∷
    "Ccancel N" ∷
    "+add-tail N N N" ∷
    "-remove-tail N N" ∷
    "Ffind-tail N N N N N N N" ∷
    "Mmove-tail N N N N N N N" ∷
    "Gfind-struct N N N N N N N" ∷
    "Nmove-struct N N N N N N N" ∷ [])

-- "a line of no bytes is empty, and a line whose first byte is `#` is a comment whatever follows"; one of "more than 1,000 bytes" is no
-- command, nor one that fits no template. Of any other line nothing is said: `found` is the answer itself.
unfoldable pub read_as : List ℕ → Command → Command
read_as line found =
    pick (eqb (length line) 0) Nothing
    (pick (eqb (get_or line 0 0) (code "#")) Nothing
    (pick (ltb 1000 (length line)) Bad
    (pick (is_some (first_fitting line templates)) found Bad)))
