-- Removing by what is seen: its row of refusals is the definition's, and where it is done the record can be taken out. Assumes nothing.
use Prim.Native.Nat.{ℕ, ◌<◌}
use mathlib.Core.Path.{◌≡◌, refl, sym, ◌∙◌, ap, subst}
use mathlib.Core.Bool.{Bool, true, not}
use mathlib.Core.List.{List, [], ◌∷◌, ◌++◌}
use lib.ListN.{length}
use borrow.Author.Tests.{not-false}
use Rattle.std.specs.Prelude.{Ok}
use Rattle.bars.specs.Bars.{◌whenever◌, verdict}
use Rattle.tail_answers.specs.TailAnswers.{Verdict}
use Rattle.tail_answers.specs.declared.TailRefusal.TheVariants.{Absent}
use Rattle.bars.proofs.Verdicts.{clear}
use Rattle.tail_table.specs.Table.{used_of, stands, without, over_first, zeroes}
use Rattle.tail_table.specs.TailCalls.{remove_row}
use Rattle.tail_table.specs.Sweeping.{room_of, place_of, remove_by, cut}
use Rattle.tail_table.specs.declared.Tail.{Tail}
use Rattle.tail_table.specs.declared.File.{File}
use Rattle.tail_table.specs.declared.Room.{Room}
use Rattle.tail_table.specs.declared.Sweep.{Sweep}
use Rattle.tail_sweeps.proofs.Deciding.{seen, row_so, Sound, sound, used_long}
use Rattle.tail_sweeps.proofs.Placing.{place_inside, without_there}

module _ (words : List ℕ) (used : ℕ) (f : File) where
  -- the code's verdict v, by the room and the sweep that it has, is the definition's
  pub removing : {v : Verdict} {room : Room} {s : Sweep} → room ≡ room_of (length words) → s ≡ seen words used f → v ≡ remove_by room used s → v ≡ verdict (remove_row words used f)
  removing {room = room} p r e =
      e
      ∙ ap (remove_by room used) r
      ∙ ap (λ (x : Room). remove_by x used (seen words used f)) p
      ∙ row_so words used f (λ (b : Bool). b) (λ (s : Sweep). Absent whenever not s.met ∷ []) refl

  -- where none is given
  pub record Removable : Type 0 where
    pub table : Sound words used
    pub there : stands (used_of words used) f ≡ true

  pub removable : verdict (remove_row words used f) ≡ Ok tt → Removable
  removable h = let k = clear (remove_row words used f) h in record { table = sound words used k.0 k.1.0; there = not-false _ k.1.1.0 }

  pub removed : {v : Verdict} {room : Room} {s : Sweep} → room ≡ room_of (length words) → s ≡ seen words used f → v ≡ remove_by room used s → v ≡ Ok tt → Removable
  removed p r e h = removable (sym (removing p r e) ∙ h)

  -- its record is one of those in use, and the others are what the definition leaves
  pub in_use : (place : ℕ) → Removable → place ≡ place_of (used_of words used) f → place < used
  in_use place m p = subst (λ (k : ℕ). k < used) (sym p) (subst (λ (k : ℕ). place_of (used_of words used) f < k) (used_long m.table) (place_inside f (used_of words used) m.table.order m.there))

  pub removed_so : {w : List ℕ} (place : ℕ) → Removable → place ≡ place_of (used_of words used) f → w ≡ over_first (cut place (used_of words used) ++ zeroes ∷ []) words → w ≡ over_first (without f (used_of words used) ++ zeroes ∷ []) words
  removed_so place m p e =
      e
      ∙ ap (λ (us : List Tail). over_first (us ++ zeroes ∷ []) words)
      (ap (λ (k : ℕ). cut k (used_of words used)) p ∙ without_there f (used_of words used) m.table.order m.there)
