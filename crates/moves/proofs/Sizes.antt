-- A step that was handed what is lent by its sizes: behind its gate all of them are right, so that areas which are exchanged or copied
-- whole are of one size. Assumes nothing.
use Prim.Native.Nat.{ℕ, ◌%◌}
use mathlib.Core.Path.{◌≡◌, refl, ◌∙◌, ap}
use mathlib.Core.Bool.{Bool, true, false, ◌&&◌}
use mathlib.Core.List.{List, [], ◌∷◌}
use lib.Dec.{eqb}
use lib.ListN.{length}
use Rattle.choice.specs.Pick.{pick, ◌and◌}
use Rattle.choice.proofs.Tests.{never}
use Rattle.areas.specs.Areas.{area_size, sized, copied, exchanged}
use Rattle.areas.proofs.Laws.{copied_whole, exchanged_whole, same_size, same_sizes}
use Rattle.batch.specs.Batch.{table_words, table_sized, paired}
use Rattle.answers.specs.Classes.{refused}
use Rattle.record.specs.Answers.{Told}
use Rattle.record.specs.Given.{of_sizes}
use Rattle.record.specs.Leaves.{Leaves, leaves, moving}
use Rattle.record.specs.declared.Record.{Record}
use Rattle.record.specs.declared.Findings.{Findings}
use Rattle.gates.specs.Gates.{gate_of, gated}
use Rattle.gates.proofs.Passing.{Gate}
use Rattle.std.specs.Prelude.{Ok, Err}
use Rattle.gates.proofs.Passing.{passed}
use Rattle.moves.proofs.Laws.{three, in_turn}

unless : {A : Type 0} (b : Bool) (x : A) {y z : A} → (b ≡ false → y ≡ z) → pick b x y ≡ pick b x z
unfolding pick
unless true x p = refl
unless false x p = p refl

-- a call x that moves what its step t lets it, which tells the definition's d
pub told_by : {t d : Told} {x : Leaves} (lent moved : List (List ℕ)) → x ≡ moving t lent moved → t ≡ d → x ≡ moving d lent moved
told_by lent moved e s = e ∙ ap (λ (y : Told). moving y lent moved) s

-- an area was asked for its size, and so was the table
abbrev pub Area : Bool → List ℕ → Type 0
Area b area = b ≡ eqb (length area) area_size

abbrev pub Table : Bool → List ℕ → Type 0
Table b table = b ≡ eqb (length table) table_words

module _ (r : Record) (own : Told) where
  -- a step by what was found, and by sizes alone
  abbrev pub by : Findings → Told
  by f = gated (gate_of f.sized f.sound r) r own

  abbrev pub fitting : Bool → Told
  fitting fit = by (of_sizes fit)

  -- one that is not refused has passed its gate
  went : (g : Gate) → refused (gated g r own).class ≡ false → g ≡ Ok tt
  unfolding gated
  went (Ok u) h = refl
  went (Err why) h = never h

  -- so that what it moves goes by the right sizes
  same : (fit : Bool) (lent : List (List ℕ)) {m n : List (List ℕ)} → (fit ≡ true → m ≡ n) → moving (fitting fit) lent m ≡ moving (fitting fit) lent n
  same fit lent p = ap (leaves _) (unless _ lent (λ h. p (passed fit true r refl (went _ h)).fits))

  module _ {t : Told} {f : Findings} {x : Leaves} where
    asked : (fit : Bool) (lent moved : List (List ℕ)) → x ≡ moving t lent moved → t ≡ by f → f ≡ of_sizes fit → x ≡ moving (fitting fit) lent moved
    asked fit lent moved e s h = told_by lent moved e (s ∙ ap by h)

    -- by the sizes of two areas, of the table, and of all that a begin is lent
    by-areas : {p q : Bool} (a b : List ℕ) (lent moved : List (List ℕ)) → x ≡ moving t lent moved → t ≡ by f → f ≡ of_sizes (p && q)
        → Area p a → Area q b → x ≡ moving (fitting (sized a and sized b)) lent moved
    unfolding sized ◌and◌
    by-areas a b lent moved e s h u v = asked _ _ _ e s (h ∙ cc)

    pub by-table : {p : Bool} (l : List ℕ) (lent moved : List (List ℕ)) → x ≡ moving t lent moved → t ≡ by f → f ≡ of_sizes p
        → Table p l → x ≡ moving (fitting (table_sized l)) lent moved
    unfolding table_sized
    by-table l lent moved e s h u = asked _ _ _ e s (h ∙ ap of_sizes u)

    pub by_all : {p q u w : Bool} (a b l pairs : List ℕ) (lent moved : List (List ℕ)) → x ≡ moving t lent moved → t ≡ by f
        → f ≡ of_sizes (((p && q) && u) && w) → Area p a → Area q b → Table u l → w ≡ eqb (length pairs % 2) 0
        → x ≡ moving (fitting (sized a and sized b and table_sized l and paired pairs)) lent moved
    unfolding sized table_sized paired ◌and◌
    by_all a b l pairs lent moved e s h i j k m = asked _ _ _ e s (h ∙ cc)

    -- areas of the right size are exchanged whole, and replace one another whole
    pub crossed : {p q : Bool} (a b : List ℕ) → x ≡ moving t (a ∷ b ∷ []) (exchanged a b) → t ≡ by f → f ≡ of_sizes (p && q)
        → Area p a → Area q b → x ≡ moving (fitting (sized a and sized b)) (a ∷ b ∷ []) (b ∷ a ∷ [])
    crossed a b e s h u v = by-areas a b _ _ e s h u v ∙ same _ _ (λ z. exchanged_whole a b (same_size a b z))

    pub replaced : {p q u : Bool} (a o b : List ℕ) → x ≡ moving t (a ∷ o ∷ b ∷ []) (copied o a ∷ o ∷ copied a b ∷ []) → t ≡ by f
        → f ≡ of_sizes ((p && q) && u) → Area p a → Area q o → Area u b
        → x ≡ moving (fitting (sized a and sized o and sized b)) (a ∷ o ∷ b ∷ []) (o ∷ o ∷ a ∷ [])
    unfolding sized ◌and◌
    replaced a o b e s h i j k =
        asked _ _ _ e s (h ∙ cc)
        ∙ same _ _ (λ z. let l = same_sizes a o b z in three (copied_whole o a l.0) refl (copied_whole a b l.1))

  -- two areas that are moved in turn
  pub both_areas : {t s u : Told} {f : Findings} {p q : Bool} {after after' : List ℕ} (a b m n : List ℕ) → leaves s (after ∷ []) ≡ moving t (a ∷ []) (m ∷ [])
      → leaves u (after' ∷ []) ≡ moving s (b ∷ []) (n ∷ []) → t ≡ by f → f ≡ of_sizes (p && q) → Area p a → Area q b
      → leaves u (after ∷ after' ∷ []) ≡ moving (fitting (sized a and sized b)) (a ∷ b ∷ []) (m ∷ n ∷ [])
  both_areas a b m n e e' = by-areas a b _ _ (in_turn _ _ _ _ e e')
