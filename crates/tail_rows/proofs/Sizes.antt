-- Which words are a table's, by the test of their room, and what the calls answer of others. Assumes nothing.
use Prim.Native.Nat.{ℕ, ◌≤◌, ◌/◌, ◌%◌}
use mathlib.Core.Path.{◌≡◌, refl, sym, ◌∙◌, ap}
use mathlib.Core.Bool.{Bool, true, false, not}
use mathlib.Core.List.{List}
use lib.ListN.{length, take}
use borrow.Author.Tests.{ltb-false, eqb-true, not-false}
use Rattle.std.specs.Prelude.{Result, Option, Some, None, Err}
use Rattle.tail_answers.specs.TailAnswers.{Verdict}
use Rattle.choice.specs.Pick.{pick}
use Rattle.choice.proofs.Tests.{neither}
use Rattle.tail_answers.specs.declared.TailRefusal.TheVariants.{BadArea}
use Rattle.tail_answers.specs.declared.TailRefusal.{TailRefusal}
use Rattle.tail_answers.specs.declared.Finding.{Finding}
use Rattle.tail_table.specs.Table.{tails_of, words_of, other_words}
use Rattle.tail_table.specs.TailCalls.{find_of, move_of, table_left}
use Rattle.tail_table.specs.Sweeping.{room_of}
use Rattle.tail_table.specs.declared.Tail.{Tail}
use Rattle.tail_table.specs.declared.File.{File}
use Rattle.tail_table.specs.declared.Claim.{Claim}
use Rattle.tail_table.specs.declared.Room.{Room}
use Rattle.tail_sweeps.proofs.Words.{words_back}

-- words whose room is a table's
pub record Table (words : List ℕ) (room : Room) : Type 0 where
  pub threes : length words % 3 ≡ 0
  pub most : length words ≤ 768
  pub records : room.records ≡ length words / 3

twice : (b : Bool) → not (not b) ≡ b
twice true = refl
twice false = refl

-- the code tests whether the room is no table's
tested : (words : List ℕ) (room : Room) {v : Bool} → room ≡ room_of (length words) → not room.sized ≡ v → other_words (length words) ≡ v
tested words room e h = sym (twice (other_words (length words))) ∙ sym (ap (λ (r : Room). not r.sized) e) ∙ h

pub table : (words : List ℕ) (room : Room) → room ≡ room_of (length words) → not room.sized ≡ false → Table words room
unfolding other_words
table words room e h =
    let a = tested words room e h in
    record { threes = eqb-true (length words % 3) 0 (not-false _ (neither a).0); most = ltb-false 768 (length words) (neither a).1; records = ap (λ (r : Room). r.records) e }

-- words' own room, given back where it is a table's
roomed : {room own : Room} (sized : Bool) → pick (not sized) None (Some own) ≡ Some room → (own ≡ room) × (not sized ≡ false)
unfolding pick
roomed true h = (cc, refl)
roomed false h = cc

pub has_room : {r : Option Room} {room : Room} (own : Room) → r ≡ pick (not own.sized) None (Some own) → r ≡ Some room → (room ≡ own) × (not room.sized ≡ false)
has_room own e h = let k = roomed own.sized (sym e ∙ h) in (sym k.0, ap (λ (x : Room). not x.sized) (sym k.0) ∙ k.1)

unroomed : (own : Room) (sized : Bool) → pick (not sized) None (Some own) ≡ None → not sized ≡ true
unfolding pick
unroomed own true h = cc
unroomed own false h = refl

pub no_room : {r : Option Room} (own : Room) → r ≡ pick (not own.sized) None (Some own) → r ≡ None → not own.sized ≡ true
no_room own e h = unroomed own own.sized (sym e ∙ h)

-- of others the first refusal is given
pub others_find : (words : List ℕ) (room : Room) (used : ℕ) (f : File) (size : ℕ) (c : Claim) → room ≡ room_of (length words) → not room.sized ≡ true → Err BadArea ≡ find_of words used f size c
unfolding pick
others_find words room used f size c e h = let a = tested words room e h in simp a

pub others_move : (words : List ℕ) (room : Room) (used : ℕ) (t : Tail) (c : Claim) → room ≡ room_of (length words) → not room.sized ≡ true → table_left (Err BadArea) used words ≡ move_of words used t c
unfolding pick
others_move words room used t c e h = let a = tested words room e h in simp a

-- the front of a row that has the words' records
front_words : (words : List ℕ) (room : Room) (row : List Tail) → Table words room → take (length words / 3) row ≡ tails_of words → words_of (take room.records row) ≡ words
front_words words room row o e = ap (λ (n : ℕ). words_of (take n row)) o.records ∙ ap words_of e ∙ words_back words o.threes

pub front_find : (words : List ℕ) (room : Room) (row : List Tail) (used : ℕ) (f : File) (size : ℕ) (c : Claim) {r : Result Finding TailRefusal}
    → Table words room → take (length words / 3) row ≡ tails_of words → r ≡ find_of (words_of (take room.records row)) used f size c → r ≡ find_of words used f size c
front_find words room row used f size c o e h = h ∙ ap (λ (ws : List ℕ). find_of ws used f size c) (front_words words room row o e)

-- and after a move, where the words are those of the front that is left
pub front_move : (words words' : List ℕ) (room : Room) (row front : List Tail) (used : ℕ) (t : Tail) (c : Claim) (v : Verdict)
    → Table words room → take (length words / 3) row ≡ tails_of words → words' ≡ words_of front
    → table_left v used (words_of front) ≡ move_of (words_of (take room.records row)) used t c → table_left v used words' ≡ move_of words used t c
front_move words words' room row front used t c v o e w h = ap (table_left v used) w ∙ h ∙ ap (λ (ws : List ℕ). move_of ws used t c) (front_words words room row o e)
