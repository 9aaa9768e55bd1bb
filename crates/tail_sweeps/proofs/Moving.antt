-- Moving by what is seen leaves what the definition says, whichever way the records are lent. Assumes nothing.
use Prim.Native.Nat.{ℕ, ◌%◌}
use mathlib.Core.Path.{◌≡◌, refl, sym, ◌∙◌, ap}
use mathlib.Core.Bool.{Bool, true, not}
use mathlib.Core.List.{List, [], ◌∷◌, ◌++◌}
use lib.Dec.{ltb}
use lib.ListN.{length, get_or, set, drop, take-append-drop}
use borrow.Author.Tests.{not-false}
use Rattle.choice.specs.Pick.{◌or◌}
use Rattle.choice.proofs.Tests.{neither}
use Rattle.wholeness.specs.Whole.{whole}
use Rattle.step_stamps.specs.Stamping.{passes}
use Rattle.std.specs.Prelude.{Ok, Err}
use Rattle.bars.specs.Bars.{Bar, ◌whenever◌, verdict}
use Rattle.tail_answers.specs.TailAnswers.{Verdict}
use Rattle.tail_answers.specs.declared.TailRefusal.{TailRefusal}
use Rattle.tail_answers.specs.declared.TailRefusal.TheVariants.{Unstamped, Absent, Backward}
use Rattle.bars.proofs.Verdicts.{clear}
use Rattle.tail_table.specs.Table.{tails_of, words_of, file_of, used_of, stands, moved_to, over_first, with_offset, zeroes}
use Rattle.tail_table.specs.TailCalls.{table_left, settled, move_row, move_of}
use Rattle.tail_table.specs.Sweeping.{room_of, place_of, move_by, placed}
use Rattle.tail_table.specs.declared.Tail.{Tail}
use Rattle.tail_table.specs.declared.Claim.{Claim}
use Rattle.tail_table.specs.declared.Sweep.{Sweep}
use Rattle.tail_sweeps.proofs.Words.{words_back}
use Rattle.tail_sweeps.proofs.Deciding.{seen, row_so, Sound, sound, place_so, used_long}
use Rattle.tail_sweeps.proofs.Placing.{moved-long, moved-there}

module _ (words : List ℕ) (used : ℕ) (t : Tail) (c : Claim) where
  abbrev us : List Tail
  us = used_of words used

  -- the call's own refusals
  abbrev own : Sweep → List (Bar TailRefusal)
  own s = Unstamped whenever not (passes c.record c.domain c.stamp) ∷ Absent whenever not s.met ∷ Backward whenever ltb t.offset s.offset ∷ []

  pub moving : move_by (room_of (length words)) used (seen words used (file_of t)) t.offset c ≡ verdict (move_row words used t c)
  unfolding ◌or◌
  moving = row_so words used (file_of t) (λ (u : Bool). u or not (whole c.record)) own refl

  -- where none is given the table is sound, and the pair stands in it
  pub record Movable : Type 0 where
    pub table : Sound words used
    pub there : stands us (file_of t) ≡ true

  pub movable : verdict (move_row words used t c) ≡ Ok tt → Movable
  movable h =
      let k = clear (move_row words used t c) h in
      record { table = sound words used k.0 (neither k.1.0).0; there = not-false _ k.1.1.1.0 }

  -- the record at the pair's place, with the offset
  pub moved_so : Movable → words_of (set (tails_of words) (place_of us (file_of t)) (with_offset t.offset (get_or (tails_of words) (place_of us (file_of t)) zeroes))) ≡ over_first (moved_to t.offset (file_of t) us) words
  moved_so m =
      ap words_of
      (ap (λ (ts : List Tail). set ts (place_of us (file_of t)) (with_offset t.offset (get_or ts (place_of us (file_of t)) zeroes))) (sym (take-append-drop used (tails_of words)))
      ∙ moved-there (file_of t) t.offset us (drop used (tails_of words)) m.table.order m.there
      ∙ ap (λ (k : ℕ). moved_to t.offset (file_of t) us ++ drop k (tails_of words)) (sym (moved-long (file_of t) t.offset us ∙ used_long m.table)))

  left : length words % 3 ≡ 0 → (v : Verdict) → v ≡ verdict (move_row words used t c) → table_left v used (words_of (placed v (seen words used (file_of t)).place t.offset (tails_of words))) ≡ settled v used words used (over_first (moved_to t.offset (file_of t) us) words)
  left e (Err why) h = ap (table_left (Err why) used) (words_back words e)
  left e (Ok u) h =
      let m = movable (sym h) in
      ap (λ (k : ℕ). table_left (Ok tt) used (words_of (placed (Ok tt) k t.offset (tails_of words)))) (place_so m.table refl refl m.there)
      ∙ ap (table_left (Ok tt) used) (moved_so m)

  pub move_so : length words % 3 ≡ 0
      → let s = seen words used (file_of t) in let v = move_by (room_of (length words)) used s t.offset c in table_left v used (words_of (placed v s.place t.offset (tails_of words))) ≡ move_of words used t c
  move_so e = left e _ moving ∙ ap (λ (v : Verdict). settled v used words used (over_first (moved_to t.offset (file_of t) us) words)) moving
