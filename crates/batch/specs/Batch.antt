-- Document 01, "Modules", 2, and "What is lent and kept": the table of actions. Assumes nothing.
use Rattle.std.specs.Prelude.{ℕ, ◌+◌, ◌*◌, ◌%◌, Bool, List, eqb, length, get_or, set}
use Rattle.areas.specs.Areas.{copied}

-- "Up to 64 actions, an identity and a payload each."
abbrev pub limit : ℕ
limit = 64

-- "Action table: 128 u64 words"
abbrev pub table_words : ℕ
table_words = 2 * limit

unfoldable pub table_sized : List ℕ → Bool
table_sized table = eqb (length table) table_words

-- "begin's pairs as a u64 slice of even length"
unfoldable pub paired : List ℕ → Bool
paired pairs = eqb (length pairs % 2) 0

-- "identity at 2i, payload at 2i + 1"
abbrev pub identity_at : List ℕ → ℕ → ℕ
identity_at table i = get_or table (2 * i) 0

abbrev pub payload_at : List ℕ → ℕ → ℕ
payload_at table i = get_or table (2 * i + 1) 0

-- the pairs copied in
unfoldable pub pairs_in : List ℕ → List ℕ → List ℕ
pairs_in pairs table = copied pairs table

-- one action's payload stored
unfoldable pub stored : ℕ → ℕ → List ℕ → List ℕ
stored action payload table = set table (2 * action + 1) payload
