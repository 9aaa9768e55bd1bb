-- What the calls on structs find and decide, by the definitions of the calls on their flat words. Assumes nothing.
use mathlib.Core.Path.{◌≡◌, sym, ◌∙◌, ap}
use Prim.Native.Nat.{ℕ, ◌≤◌, zero-le, ◌*◌, ◌%◌}
use mathlib.Core.Bool.{Bool, true, false}
use mathlib.Core.List.{List}
use lib.Dec.{T, leb, leb→le}
use lib.ListN.{length, take}
use native.Mathlib.Omega.{arith}
use Rattle.tail_answers.specs.TailAnswers.{Verdict}
use Rattle.choice.specs.Pick.{pick, ◌and◌}
use Rattle.tail_table.specs.Table.{most_records, words_of, file_of}
use Rattle.tail_table.specs.TailCalls.{find_of, move_of, TableLeft, table_left}
use Rattle.tail_table.specs.Sweeping.{room_of, room_for, reach_of, swept, find_by, move_by, placed}
use Rattle.tail_table.specs.declared.Tail.{Tail}
use Rattle.tail_table.specs.declared.File.{File}
use Rattle.tail_table.specs.declared.Claim.{Claim}
use Rattle.tail_table.specs.declared.Sweep.{Sweep}
use Rattle.tail_table.specs.declared.Room.{Room}
use Rattle.tail_sweeps.proofs.Words.{tails_back, words_long}
use Rattle.tail_sweeps.proofs.Deciding.{find_so, same_room}
use Rattle.tail_sweeps.proofs.Moving.{move_so}
use Rattle.tail_structs.specs.Structs.{looked}

-- no more records are looked at than there are
picked : (sized fits : Bool) (used n : ℕ) → (T fits → used ≤ n) → pick (sized and fits) used 0 ≤ n
unfolding pick ◌and◌
picked true true used n h = h tt
picked true false used n h = zero-le
picked false fits used n h = zero-le

pub reach_fits : (n used : ℕ) → reach_of (room_for n) used ≤ n
reach_fits n used = picked (leb n most_records) (leb used n) used n (leb→le used n)

-- the structs' room is that of their words
room_of_lem : (ts : List Tail) → room_for (length ts) ≡ room_of (length (words_of ts))
room_of_lem ts = same_room (length ts) ∙ ap room_of (sym (words_long ts))

-- what is known after the records that are looked at, of a room
abbrev seen : Room → List Tail → ℕ → File → Sweep
seen room ts used f = swept (take (reach_of room used) ts) f

pub find_agrees : (ts : List Tail) (used : ℕ) (f : File) (size : ℕ) (c : Claim) → find_by (room_for (length ts)) used (looked ts used f) size c ≡ find_of (words_of ts) used f size c
unfolding looked
find_agrees ts used f size c = (λ i. find_by (room_of_lem ts i) used (seen (room_of_lem ts i) (sym (tails_back ts) i) used f) size c) ∙ find_so (words_of ts) used f size c

-- a table's words are three to a record
thirds : (n : ℕ) → n * 3 % 3 ≡ 0
thirds n = omega arith

-- so moving by a sweep s, its answer v and the records after it are those of the call on flat words
pub move_agrees : (ts : List Tail) (used : ℕ) (t : Tail) (c : Claim) {room : Room} {f : File} {s : Sweep} {v : Verdict}
    → room ≡ room_for (length ts) → f ≡ file_of t → s ≡ looked ts used f → v ≡ move_by room used s t.offset c
    → table_left v used (words_of (placed v s.place t.offset ts)) ≡ move_of (words_of ts) used t c
unfolding looked
move_agrees ts used t c {room} {f} {s} {v} p q r e =
    ap (λ (x : Verdict). table_left x used (words_of (placed x s.place t.offset ts))) e
    ∙ ap (leaves room ts) (r ∙ ap (looked ts used) q)
    ∙ ap (λ (x : Room). leaves x ts (looked ts used (file_of t))) p
    ∙ (λ i. leaves (room_of_lem ts i) (sym (tails_back ts) i) (seen (room_of_lem ts i) (sym (tails_back ts) i) used (file_of t)))
    ∙ move_so (words_of ts) used t c (ap (λ (n : ℕ). n % 3) (words_long ts) ∙ thirds (length ts))
  where
    leaves : Room → List Tail → Sweep → TableLeft
    leaves x us z = table_left (move_by x used z t.offset c) used (words_of (placed (move_by x used z t.offset c) z.place t.offset us))
