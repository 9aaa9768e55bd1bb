-- `status::marks_of` meets its contract: a return for each test of the definition. Assumes nothing.
use Prim.Native.Nat.{ℕ, ◌<◌}
use mathlib.Core.Path.{◌≡◌, refl, ap, ◌∙◌}
use mathlib.Core.Bool.{Bool, false, not}
use mathlib.Core.List.{[], List}
use native.Mathlib.Omega.{arith}
use lib.Dec.{eqb, leb, ltb}
use lib.ListN.{get_or, set}
use borrow.Author.Tests.{eqb-true, leb-false, not-false}
use Rattle.choice.specs.Pick.{◌or◌}
use Rattle.choice.proofs.Picks.{yes, no, told_not}
use Rattle.choice.proofs.Tests.{neither}
use Rattle.answers.specs.Classes.Class.{performed}
use Rattle.answers.specs.Answers.{said}
use Rattle.status.specs.Status.{leaves_marks, most_ids, other_lengths, outside, bytes_sound, entry_of, put, marking}
use Rattle.status.specs.Status.Entry.{At}
use Rattle.status.proofs.marks_of.Goals as goal

-- an id that is not refused is an index of both
inside : (m n id : ℕ) → not (eqb m n) or ltb n 1 or ltb most_ids n ≡ false → eqb id 0 or leb n id ≡ false → (id < m) × (id < n)
inside m n id s e =
    let l = eqb-true m n (not-false _ (neither (neither s).0).0) in
    let r = leb-false n id (neither e).1 in
    (omega arith, r)

-- and its bytes are found, where they are sound
found : (groups status : List ℕ) (id : ℕ) → other_lengths groups status ≡ false → outside status id ≡ false
    → not (bytes_sound (get_or groups id 0) (get_or status id 0)) ≡ false → At id (get_or groups id 0) (get_or status id 0) ≡ entry_of groups status id
unfolding entry_of
found groups status id l o b = no _ l (no _ o (no _ b refl))

-- the byte that a call leaves, where it is allowed
written : (allowed : Bool) (mark next : ℕ) (status : List ℕ) (id : ℕ) → not allowed ≡ false → mark ≡ next
    → leaves_marks (said performed []) (set status id mark) ≡ put allowed id next status
unfolding put
written allowed mark next status id e p = no _ e (ap (λ (m : ℕ). leaves_marks (said performed []) (set status id m)) p)

pub returns-then-groups-n : goal.returns-then-groups-n
unfolding marking entry_of ◌or◌
returns-then-groups-n c = ap (marking _ _) (yes _ c.if-groups-n.true refl)

pub returns-then-id-n : goal.returns-then-id-n
unfolding marking entry_of ◌or◌
returns-then-id-n c = ap (marking _ _) (no _ c.if-groups-n.false (yes _ c.if-id-n.true refl))

pub bounds-groups-at : goal.bounds-groups-at
unfolding ◌or◌
bounds-groups-at c = (inside _ _ _ c.if-groups-n.false c.if-id-n.false).0

pub bounds-status-at : goal.bounds-status-at
unfolding ◌or◌
bounds-status-at c = (inside _ _ _ c.if-groups-n.false c.if-id-n.false).1

pub returns-then-not-bytes_sound : goal.returns-then-not-bytes_sound
unfolding marking entry_of ◌or◌
returns-then-not-bytes_sound c =
    ap (marking _ _) (no _ c.if-groups-n.false (no _ c.if-id-n.false
    (yes _ (told_not c.bytes_sound.ensures (ap not c.if-not-bytes_sound.true)) refl)))

pub returns-then-not-allowed : goal.returns-then-not-allowed
unfolding marking put ◌or◌
returns-then-not-allowed c =
    yes _ (told_not c.allowed.ensures (ap not c.if-not-allowed.true)) refl
    ∙ ap (marking _ _) (found _ _ _ c.if-groups-n.false c.if-id-n.false (told_not c.bytes_sound.ensures (ap not c.if-not-bytes_sound.false)))

pub bounds-status-at-2 : goal.bounds-status-at-2
unfolding ◌or◌
bounds-status-at-2 c = (inside _ _ _ c.if-groups-n.false c.if-id-n.false).1

pub returns : goal.returns
unfolding marking ◌or◌
returns c =
    written _ _ _ _ _ (told_not c.allowed.ensures (ap not c.if-not-allowed.false)) c.next.ensures
    ∙ ap (marking _ _) (found _ _ _ c.if-groups-n.false c.if-id-n.false (told_not c.bytes_sound.ensures (ap not c.if-not-bytes_sound.false)))
