-- The areas of a script, and what the driver holds of each: the driver's page, "What the driver holds". Assumes nothing.
use Rattle.std.specs.Prelude.{ℕ, List, [], ◌∷◌, get_or}
use Rattle.rows.specs.Rows.{top8}
use Rattle.holdings.specs.declared.Area.{Area}
use Rattle.holdings.specs.declared.Area.TheVariants.{Accepted, Candidate, Recovery, Exchange, Table, Log, Groups, Status, Tails}

-- "a, c, r, x, t, l, g or s"; by request 2 "also .. f"
abbrev pub areas : List Area
areas = Accepted ∷ Candidate ∷ Recovery ∷ Exchange ∷ Table ∷ Log ∷ Groups ∷ Status ∷ Tails ∷ []

-- the area at a place among them; past them the last
abbrev pub area_at : ℕ → Area
area_at place = get_or areas place Tails

-- "four areas .. of 5,000 bytes each, a table t of 2,200 words, a log l of 5,000 words, groups g and status s of 300 bytes each";
-- by request 2 "also .. f, 800 words"
abbrev pub held_of : Area → ℕ
held_of Accepted = 5000
held_of Candidate = 5000
held_of Recovery = 5000
held_of Exchange = 5000
held_of Table = 2200
held_of Log = 5000
held_of Groups = 300
held_of Status = 300
held_of Tails = 800

-- "at most 255 where B holds bytes"; a word is any u64
abbrev pub most_of : Area → ℕ
most_of Accepted = top8
most_of Candidate = top8
most_of Recovery = top8
most_of Exchange = top8
most_of Table = 18446744073709551615
most_of Log = 18446744073709551615
most_of Groups = top8
most_of Status = top8
most_of Tails = 18446744073709551615
