-- Moving by what is seen: its verdict is the definition's, and where it is done one word is written. Assumes nothing.
use Prim.Native.Nat.{ℕ, ◌+◌, ◌*◌, ◌<◌}
use mathlib.Core.Path.{◌≡◌, sym, ◌∙◌, ap}
use mathlib.Core.List.{List}
use native.Mathlib.Omega.{arith}
use lib.ListN.{length, get_or, set}
use Rattle.std.specs.Prelude.{Ok}
use Rattle.bars.specs.Bars.{verdict}
use Rattle.tail_answers.specs.TailAnswers.{Verdict}
use Rattle.tail_table.specs.Table.{tails_of, words_of, file_of, used_of, moved_to, over_first, with_offset, zeroes}
use Rattle.tail_table.specs.TailCalls.{move_row}
use Rattle.tail_table.specs.Sweeping.{room_of, place_of, move_by}
use Rattle.tail_table.specs.declared.Tail.{Tail}
use Rattle.tail_table.specs.declared.File.{File}
use Rattle.tail_table.specs.declared.Claim.{Claim}
use Rattle.tail_table.specs.declared.Room.{Room}
use Rattle.tail_table.specs.declared.Sweep.{Sweep}
use Rattle.tail_sweeps.proofs.Words.{records, offset_there}
use Rattle.tail_sweeps.proofs.Deciding.{seen, used_long}
use Rattle.tail_sweeps.proofs.Placing.{place_inside}
use Rattle.tail_sweeps.proofs.Moving.{moving, Movable, movable, moved_so}

module _ (words : List ℕ) (used : ℕ) (t : Tail) (c : Claim) where
  -- the code's verdict v, by the room and the sweep that it has, is the definition's
  pub moving_by : {v : Verdict} {room : Room} {s : Sweep} {f : File} → room ≡ room_of (length words) → f ≡ file_of t → s ≡ seen words used f → v ≡ move_by room used s t.offset c → v ≡ verdict (move_row words used t c)
  moving_by {room = room} p q r e =
      e
      ∙ ap (λ (s : Sweep). move_by room used s t.offset c) (r ∙ ap (seen words used) q)
      ∙ ap (λ (x : Room). move_by x used (seen words used (file_of t)) t.offset c) p
      ∙ moving words used t c

  pub moved : {v : Verdict} {room : Room} {s : Sweep} {f : File} → room ≡ room_of (length words) → f ≡ file_of t → s ≡ seen words used f → v ≡ move_by room used s t.offset c → v ≡ Ok tt → Movable words used t c
  moved p q r e h = movable words used t c (sym (moving_by p q r e) ∙ h)

  -- the offset of the pair's record is one of the words
  pub in_words : (place : ℕ) → Movable words used t c → place ≡ place_of (used_of words used) (file_of t) → place * 3 + 2 < length words
  in_words place m p =
      let i = place_inside (file_of t) (used_of words used) m.table.order m.there in
      let n = used_long m.table in
      let w = m.table.within in
      let r = records words in
      let h = m.table.threes in
      omega (arith, i, n, w, r, h, p)

  pub advanced : (place : ℕ) → Movable words used t c → place ≡ place_of (used_of words used) (file_of t) → set words (place * 3 + 2) t.offset ≡ over_first (moved_to t.offset (file_of t) (used_of words used)) words
  advanced place m p =
      offset_there words place t.offset m.table.threes (in_words place m p)
      ∙ ap (λ (k : ℕ). words_of (set (tails_of words) k (with_offset t.offset (get_or (tails_of words) k zeroes)))) p
      ∙ moved_so words used t c m
