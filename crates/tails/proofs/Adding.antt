-- Adding by what is seen: its row of refusals is the definition's, and where it is done the record can be put in. Assumes nothing.
use Prim.Native.Nat.{ℕ, ◌<◌, ◌/◌}
use mathlib.Core.Path.{◌≡◌, refl, sym, ◌∙◌, ap}
use mathlib.Core.Bool.{Bool}
use mathlib.Core.List.{List, [], ◌∷◌}
use lib.Dec.{leb}
use lib.ListN.{length}
use borrow.Author.Tests.{leb-false}
use Rattle.std.specs.Prelude.{Ok}
use Rattle.bars.specs.Bars.{◌whenever◌, verdict}
use Rattle.tail_answers.specs.TailAnswers.{Verdict}
use Rattle.tail_answers.specs.declared.TailRefusal.TheVariants.{Present, Full}
use Rattle.bars.proofs.Verdicts.{clear}
use Rattle.tail_table.specs.Table.{tails_of, file_of, used_of, stands}
use Rattle.tail_table.specs.TailCalls.{on_table, add_row}
use Rattle.tail_table.specs.Sweeping.{room_of, add_by}
use Rattle.tail_table.specs.declared.Tail.{Tail}
use Rattle.tail_table.specs.declared.File.{File}
use Rattle.tail_table.specs.declared.Room.{Room}
use Rattle.tail_table.specs.declared.Sweep.{Sweep}
use Rattle.tail_sweeps.proofs.Words.{records}
use Rattle.tail_sweeps.proofs.Deciding.{seen, row_so, Sound, sound}

module _ (words : List ℕ) (used : ℕ) (t : Tail) where
  -- the code's verdict v, by the room and the sweep that it has, is the definition's
  pub adding : {v : Verdict} {room : Room} {s : Sweep} {f : File} → room ≡ room_of (length words) → f ≡ file_of t → s ≡ seen words used f → v ≡ add_by room used s → v ≡ verdict (add_row words used t)
  adding {room = room} p q r e =
      e
      ∙ ap (add_by room used) (r ∙ ap (seen words used) q)
      ∙ ap (λ (x : Room). add_by x used (seen words used (file_of t))) p
      ∙ row_so words used (file_of t) (λ (b : Bool). b) (λ (s : Sweep). Present whenever s.met ∷ Full whenever leb (length words / 3) used ∷ []) refl
      ∙ ap (λ (n : ℕ). verdict (on_table words used (Present whenever stands (used_of words used) (file_of t) ∷ Full whenever leb n used ∷ []))) (sym (records words))

  -- where none is given
  pub record Addable : Type 0 where
    pub table : Sound words used
    pub spare : used < length (tails_of words)

  pub addable : verdict (add_row words used t) ≡ Ok tt → Addable
  addable h = let k = clear (add_row words used t) h in record { table = sound words used k.0 k.1.0; spare = leb-false (length (tails_of words)) used k.1.1.1.0 }

  pub added : {v : Verdict} {room : Room} {s : Sweep} {f : File} → room ≡ room_of (length words) → f ≡ file_of t → s ≡ seen words used f → v ≡ add_by room used s → v ≡ Ok tt → Addable
  added p q r e h = addable (sym (adding p q r e) ∙ h)
