-- After a call that was done: what it changed is found so, and every other pair as before. Assumes nothing.
use Prim.Native.Nat.{ℕ, ◌+◌, ◌-◌, ◌≤◌}
use mathlib.Core.Path.{◌≡◌, ◌∙◌, ap}
use mathlib.Core.Bool.{true, false}
use mathlib.Core.List.{List, [], ◌∷◌, ◌++◌}
use Rattle.choice.specs.Pick.{◌or◌}
use Rattle.std.specs.Prelude.{Result, Ok}
use Rattle.bars.specs.Bars.{verdict}
use Rattle.tail_answers.specs.declared.TailRefusal.{TailRefusal}
use Rattle.tail_answers.specs.declared.Finding.{Finding}
use Rattle.tail_answers.specs.declared.Finding.TheVariants as F
use Rattle.bars.proofs.Verdicts.{clear}
use Rattle.tail_table.specs.Table.{file_of, same, used_of, ascending, stands, entered, without, moved_to, over_first, zeroes}
use Rattle.tail_table.specs.TailCalls.{TableLeft, table_left, find_of, add_row, remove_row, move_row, add_of, remove_of, move_of}
use Rattle.tail_table.specs.declared.Tail.{Tail}
use Rattle.tail_table.specs.declared.File.{File}
use Rattle.tail_table.specs.declared.Claim.{Claim}
use Rattle.tail_sweeps.proofs.Order.{in_first, same_itself}
use Rattle.tail_sweeps.proofs.Deciding.{sound}
use Rattle.tail_sweeps.proofs.Moving.{movable}
use Rattle.tail_laws.specs.TailChains.{Sound, Holds}
use Rattle.tail_laws.proofs.Records.{entered_stands, entered_other, entered_saved, without_gone, without_stands, without_other, moved_stands, moved_other, moved_saved}
use Rattle.tail_laws.proofs.Tables.{table_of, was_done}
use Rattle.tail_laws.proofs.Calls.{as_it_is, add_leaves, remove_leaves, move_leaves}
use Rattle.tail_laws.proofs.Findings.{unknown_where_absent, same_where_saved, still_found}

-- finding in what a call leaves
abbrev pub find_after : TableLeft → File → ℕ → Claim → Result Finding TailRefusal
find_after l f size c = find_of l.words l.used f size c

module _ (words : List ℕ) (used : ℕ) (o : Sound (table_of words used)) where
  abbrev us : List Tail
  us = used_of words used

  order : ascending us ≡ true
  order = (sound words used o.0 o.1).order

  module _ (t : Tail) (d : (add_of words used t).answer ≡ Ok tt) where
    did : (verdict (add_row words used t) ≡ Ok tt) × (add_of words used t ≡ table_left (Ok tt) (used + 1) (over_first (entered t us) words))
    did = was_done (verdict (add_row words used t)) words used (over_first (entered t us) words) (used + 1) d

    new : stands us (file_of t) ≡ false
    new = (clear (add_row words used t) did.0).1.1.0

    -- add, and then find: Same with that offset, where the size is not below it
    pub add-then-find : (size : ℕ) (c : Claim) → Holds c → t.offset ≤ size → find_after (add_of words used t) (file_of t) size c ≡ Ok (F.Same t.offset)
    add-then-find size c h l =
        ap (λ (x : TableLeft). find_after x (file_of t) size c) did.1
        ∙ same_where_saved (add_leaves words used o t did.0) (file_of t) size c h (entered_stands t us (file_of t) ∙ in_first _ (same_itself (file_of t))) t.offset (entered_saved t us new) l

    pub add-leaves-others : (g : File) → same (file_of t) g ≡ false → (size : ℕ) (c : Claim) → find_after (add_of words used t) g size c ≡ find_of words used g size c
    unfolding ◌or◌
    add-leaves-others g n size c =
        ap (λ (x : TableLeft). find_after x g size c) did.1
        ∙ still_found (as_it_is words used o) g size c (add_leaves words used o t did.0) (entered_stands t us g ∙ simp n) (entered_other t us g n)

  module _ (f : File) (d : (remove_of words used f).answer ≡ Ok tt) where
    gone : (verdict (remove_row words used f) ≡ Ok tt) × (remove_of words used f ≡ table_left (Ok tt) (used - 1) (over_first (without f us ++ zeroes ∷ []) words))
    gone = was_done (verdict (remove_row words used f)) words used (over_first (without f us ++ zeroes ∷ []) words) (used - 1) d

    -- remove, and then find: Unknown
    pub remove-then-find : (size : ℕ) (c : Claim) → Holds c → find_after (remove_of words used f) f size c ≡ Ok F.Unknown
    remove-then-find size c h =
        ap (λ (x : TableLeft). find_after x f size c) gone.1
        ∙ unknown_where_absent (remove_leaves words used o f gone.0) f size c h (without_gone f us order)

    pub remove-leaves-others : (g : File) → same f g ≡ false → (size : ℕ) (c : Claim) → find_after (remove_of words used f) g size c ≡ find_of words used g size c
    remove-leaves-others g n size c =
        ap (λ (x : TableLeft). find_after x g size c) gone.1
        ∙ still_found (as_it_is words used o) g size c (remove_leaves words used o f gone.0) (without_stands f g n us) (without_other f g n us)

  module _ (t : Tail) (by : Claim) (d : (move_of words used t by).answer ≡ Ok tt) where
    moved : (verdict (move_row words used t by) ≡ Ok tt) × (move_of words used t by ≡ table_left (Ok tt) used (over_first (moved_to t.offset (file_of t) us) words))
    moved = was_done (verdict (move_row words used t by)) words used (over_first (moved_to t.offset (file_of t) us) words) used d

    there : stands us (file_of t) ≡ true
    there = (movable words used t by moved.0).there

    -- move, and then find: Same with the new offset, where the size is not below it
    pub move-then-find : (size : ℕ) (c : Claim) → Holds c → t.offset ≤ size → find_after (move_of words used t by) (file_of t) size c ≡ Ok (F.Same t.offset)
    move-then-find size c h l =
        ap (λ (x : TableLeft). find_after x (file_of t) size c) moved.1
        ∙ same_where_saved (move_leaves words used o t by moved.0) (file_of t) size c h (moved_stands t.offset (file_of t) us (file_of t) ∙ there) t.offset (moved_saved t.offset (file_of t) us there) l

    pub move-leaves-others : (g : File) → same (file_of t) g ≡ false → (size : ℕ) (c : Claim) → find_after (move_of words used t by) g size c ≡ find_of words used g size c
    move-leaves-others g n size c =
        ap (λ (x : TableLeft). find_after x g size c) moved.1
        ∙ still_found (as_it_is words used o) g size c (move_leaves words used o t by moved.0) (moved_stands t.offset (file_of t) us g) (moved_other (file_of t) g n t.offset us)
