-- How the calls of the tail table look at its used records, each once, and what they find: for both forms of the table. Assumes nothing.
use Rattle.std.specs.Prelude.{ℕ, zero, suc, ◌/◌, Bool, true, false, not, List, [], ◌∷◌, eqb, leb, ltb, length, get_or, set, Result, Ok, Err}
use Rattle.choice.specs.Pick.{pick, ◌and◌, ◌or◌}
use Rattle.wholeness.specs.Whole.{whole}
use Rattle.step_stamps.specs.Stamping.{passes}
use Rattle.bars.specs.Bars.{Bar, ◌whenever◌, verdict}
use Rattle.tail_answers.specs.TailAnswers.{Verdict}
use Rattle.tail_answers.specs.declared.TailRefusal.{TailRefusal}
use Rattle.tail_answers.specs.declared.TailRefusal.TheVariants.{BadArea, Damaged, Full, Present, Backward, Absent, Unstamped}
use Rattle.tail_answers.specs.declared.Finding.{Finding}
use Rattle.tail_answers.specs.declared.Finding.TheVariants as F
use Rattle.tail_table.specs.Table.{width, most_records, other_words, file_of, same, before, ascending, stands, saved_of, with_offset, zeroes}
use Rattle.tail_table.specs.TailCalls.{found}
use Rattle.tail_table.specs.declared.Tail.{Tail}
use Rattle.tail_table.specs.declared.File.{File}
use Rattle.tail_table.specs.declared.Claim.{Claim}
use Rattle.tail_table.specs.declared.Room.{Room}
use Rattle.tail_table.specs.declared.Sweep.{Sweep}

-- the room of n words, and of n records: whether it is a table's, and how many records it has
abbrev pub room_of : ℕ → Room
room_of n = record { sized = not (other_words n); records = n / width }

abbrev pub room_for : ℕ → Room
room_for n = record { sized = leb n most_records; records = n }

-- how many records are looked at: those in use, and none where their count does not fit
abbrev pub reach_of : Room → ℕ → ℕ
reach_of room used = pick (room.sized and leb used room.records) used 0

-- at which place a pair stands first among records, if it does
abbrev pub spot_of : List Tail → File → ℕ
spot_of [] f = 0
spot_of (t ∷ ts) f = pick (same (file_of t) f) 0 (pick (stands ts f) (suc (spot_of ts f)) 0)

-- the last one's pair
abbrev pub nobody : File
nobody = record { device = 0; inode = 0 }

abbrev pub last_of : File → List Tail → File
last_of f [] = f
last_of f (t ∷ ts) = last_of (file_of t) ts

-- what is known after records that are in order
abbrev pub known : List Tail → File → Sweep
known ts f = record {
  file = f;
  count = length ts;
  last = last_of nobody ts;
  ordered = ascending ts;
  met = stands ts f;
  place = spot_of ts f;
  offset = saved_of ts f;
}

-- and after one more, which is the number-th: once they are out of order nothing more is looked for
abbrev pub past : Sweep → File → ℕ → Bool → Sweep
past s last number ordered =
    record { file = s.file; count = number; last = last; ordered = ordered; met = s.met; place = s.place; offset = s.offset }

abbrev pub meeting : Sweep → Tail → ℕ → Sweep
meeting s t number =
    record { file = s.file; count = number; last = file_of t; ordered = s.ordered; met = true; place = s.count; offset = t.offset }

abbrev pub stepped : Sweep → Tail → ℕ → Sweep
stepped s t number =
    pick (not (eqb s.count 0 or before s.last (file_of t))) (past s (file_of t) number false)
    (pick (same (file_of t) s.file and not s.met) (meeting s t number) (past s (file_of t) number s.ordered))

abbrev pub swept_on : Sweep → ℕ → List Tail → Sweep
swept_on s n [] = s
swept_on s n (t ∷ ts) = swept_on (stepped s t (suc n)) (suc n) ts

abbrev pub swept : List Tail → File → Sweep
swept ts f = swept_on (known [] f) 0 ts

-- the refusals of the table and of the stamp, by a sweep
abbrev pub unsound_by : Room → ℕ → Sweep → Bool
unsound_by room used s = ltb room.records used or not s.ordered

abbrev pub by_table : Room → ℕ → Sweep → List (Bar TailRefusal) → List (Bar TailRefusal)
by_table room used s own = BadArea whenever not room.sized ∷ Damaged whenever unsound_by room used s ∷ own

abbrev pub by_stamp : Room → ℕ → Sweep → Claim → List (Bar TailRefusal) → List (Bar TailRefusal)
by_stamp room used s c own =
    BadArea whenever not room.sized
    ∷ Damaged whenever (unsound_by room used s or not (whole c.record))
    ∷ Unstamped whenever not (passes c.record c.domain c.stamp)
    ∷ own

-- what the calls answer, by a sweep
abbrev pub looked_by : Sweep → ℕ → Finding
looked_by s size = pick (not s.met) F.Unknown (pick (ltb size s.offset) F.Shrunk (F.Same s.offset))

abbrev pub find_by : Room → ℕ → Sweep → ℕ → Claim → Result Finding TailRefusal
find_by room used s size c = found (verdict (by_stamp room used s c [])) (looked_by s size)

abbrev pub add_by : Room → ℕ → Sweep → Verdict
add_by room used s = verdict (by_table room used s (Present whenever s.met ∷ Full whenever leb room.records used ∷ []))

abbrev pub remove_by : Room → ℕ → Sweep → Verdict
remove_by room used s = verdict (by_table room used s (Absent whenever not s.met ∷ []))

abbrev pub move_by : Room → ℕ → Sweep → ℕ → Claim → Verdict
move_by room used s offset c = verdict (by_stamp room used s c (Absent whenever not s.met ∷ Backward whenever ltb offset s.offset ∷ []))

-- and the records after a move: where it is done, the one at its place has the offset
abbrev pub placed : Verdict → ℕ → ℕ → List Tail → List Tail
placed (Ok u) i offset ts = set ts i (with_offset offset (get_or ts i zeroes))
placed (Err why) i offset ts = ts

-- the records without the one at a place
abbrev pub cut : ℕ → List Tail → List Tail
cut i [] = []
cut zero (t ∷ ts) = ts
cut (suc i) (t ∷ ts) = t ∷ cut i ts

-- whether all of some records stand before a pair, and how many at their front do: where it is put in
abbrev pub ahead : List Tail → File → Bool
ahead [] f = true
ahead (t ∷ ts) f = before (file_of t) f and ahead ts f

abbrev pub place_of : List Tail → File → ℕ
place_of [] f = 0
place_of (t ∷ ts) f = pick (before (file_of t) f) (suc (place_of ts f)) 0
