-- Document 02, request 2: "a lent table of tail records", as flat words and as records; its order, and what is done to its records.
-- Assumes nothing.
use Rattle.std.specs.Prelude.{ℕ, ◌*◌, ◌%◌, Bool, true, false, not, List, [], ◌∷◌, ◌++◌, eqb, ltb, length, set, take, drop}
use Rattle.choice.specs.Pick.{pick, ◌and◌, ◌or◌}
use Rattle.tail_table.specs.declared.Tail.{Tail}
use Rattle.tail_table.specs.declared.File.{File}

-- "each device, inode, offset (u64)"
abbrev pub tail_of : ℕ → ℕ → ℕ → Tail
tail_of device inode offset = record { device = device; inode = inode; offset = offset }

-- flat words, three to a record, as records; and records as flat words
abbrev pub tails_of : List ℕ → List Tail
tails_of [] = []
tails_of (device ∷ []) = []
tails_of (device ∷ inode ∷ []) = []
tails_of (device ∷ inode ∷ offset ∷ more) = tail_of device inode offset ∷ tails_of more

abbrev pub words_of : List Tail → List ℕ
words_of [] = []
words_of (t ∷ ts) = t.device ∷ t.inode ∷ t.offset ∷ words_of ts

-- the pair by which a record is found
abbrev pub file_of : Tail → File
file_of t = record { device = t.device; inode = t.inode }

unfoldable pub same : File → File → Bool
same a b = eqb a.device b.device and eqb a.inode b.inode

-- "ordered by device, then inode"
unfoldable pub before : File → File → Bool
before a b = ltb a.device b.device or eqb a.device b.device and ltb a.inode b.inode

-- "no pair twice": each record stands before the next
abbrev pub leads : Tail → List Tail → Bool
leads t [] = true
leads t (u ∷ us) = before (file_of t) (file_of u)

abbrev pub ascending : List Tail → Bool
ascending [] = true
ascending (t ∷ ts) = leads t ts and ascending ts

-- "Its words are a multiple of 3, at most 768"
abbrev pub width : ℕ
width = 3

abbrev pub most_records : ℕ
most_records = 256

unfoldable pub other_words : ℕ → Bool
other_words n = not (eqb (n % width) 0) or ltb (most_records * width) n

-- "the count of used records": these are the first; "a count that does not fit, or used records out of order"
abbrev pub used_of : List ℕ → ℕ → List Tail
used_of words used = take used (tails_of words)

unfoldable pub unsound : List ℕ → ℕ → Bool
unsound words used = ltb (length (tails_of words)) used or not (ascending (used_of words used))

-- whether a pair stands among records, and the offset that is saved with it
abbrev pub stands : List Tail → File → Bool
stands [] f = false
stands (t ∷ ts) f = same (file_of t) f or stands ts f

abbrev pub saved_of : List Tail → File → ℕ
saved_of [] f = 0
saved_of (t ∷ ts) f = pick (same (file_of t) f) t.offset (saved_of ts f)

-- the records with one more, before the first that does not stand before it
abbrev pub entered : Tail → List Tail → List Tail
entered new [] = new ∷ []
entered new (t ∷ ts) = pick (before (file_of t) (file_of new)) (t ∷ entered new ts) (new ∷ t ∷ ts)

-- the records without that of a pair
abbrev pub without : File → List Tail → List Tail
without f [] = []
without f (t ∷ ts) = pick (same (file_of t) f) ts (t ∷ without f ts)

-- the records with another offset for a pair
abbrev pub with_offset : ℕ → Tail → Tail
with_offset offset t = tail_of t.device t.inode offset

abbrev pub moved_to : ℕ → File → List Tail → List Tail
moved_to offset f [] = []
moved_to offset f (t ∷ ts) = pick (same (file_of t) f) (with_offset offset t ∷ ts) (t ∷ moved_to offset f ts)

-- the words of the used records, which are so many now, over the first of the table's: what lies beyond stays
abbrev pub over_first : List Tail → List ℕ → List ℕ
over_first us words = words_of (us ++ drop (length us) (tails_of words))

-- "Removing zeroes the freed last record"
abbrev pub zeroes : Tail
zeroes = tail_of 0 0 0

-- one record of words put in place of another; words that are no records, and a place past the end, stay
unfoldable pub record_put : ℕ → Tail → List ℕ → List ℕ
record_put i t words = pick (eqb (length words % width) 0) (words_of (set (tails_of words) i t)) words
