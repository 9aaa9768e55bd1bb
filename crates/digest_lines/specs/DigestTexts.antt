-- The texts of the lines that tell of all that is held. The words and the order of the numbers are those of the driver's page: "`bytes`
-- with the digests of a, c, r, x, `table` with the digest of t, `log` with the digest of l, `status` with the digests of g and s", and by
-- request 2 "a sixth line, `tails` with the count and the digest of f". Assumes nothing.
use Rattle.std.specs.Prelude.{ℕ, List, [], ◌∷◌, ◌++◌}
use Rattle.lines.specs.Lines.{line_text}
use Rattle.digest_lines.specs.declared.Digests.{Digests}

-- the words that lines begin with, by their letters in ASCII: b y t e s
abbrev pub bytes_word : List ℕ
bytes_word = 98 ∷ 121 ∷ 116 ∷ 101 ∷ 115 ∷ []

-- t a b l e
abbrev pub table_word : List ℕ
table_word = 116 ∷ 97 ∷ 98 ∷ 108 ∷ 101 ∷ []

-- l o g
abbrev pub log_word : List ℕ
log_word = 108 ∷ 111 ∷ 103 ∷ []

-- s t a t u s
abbrev pub status_word : List ℕ
status_word = 115 ∷ 116 ∷ 97 ∷ 116 ∷ 117 ∷ 115 ∷ []

-- t a i l s
abbrev pub tails_word : List ℕ
tails_word = 116 ∷ 97 ∷ 105 ∷ 108 ∷ 115 ∷ []

-- the five lines, one after the other
unfoldable pub digests_text : Digests → List ℕ
digests_text d =
    line_text bytes_word (d.accepted ∷ d.candidate ∷ d.recovery ∷ d.exchange ∷ [])
    ++ (line_text table_word (d.table ∷ [])
    ++ (line_text log_word (d.log ∷ [])
    ++ (line_text status_word (d.groups ∷ d.status ∷ [])
    ++ line_text tails_word (d.used ∷ d.tails ∷ []))))
