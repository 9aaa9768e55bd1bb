-- `effect_status`, `initialize_effect_status` and `cancel`, clause by clause. Assumes nothing.
use Prim.Native.Nat.{ℕ, ◌+◌, ◌/◌, ◌%◌}
use mathlib.Core.{Path.◌≡◌, Path.refl, Path.ap, Path.◌∙◌, Bool.true, List.List, List.[], List.◌∷◌}
use lib.Dec.{eqb}
use lib.ListN.{get_or, length-set}
use lib.Seq.{get_or-set_same, get_or-set_other}
use borrow.Author.Tests.{eq-eqb, le-leb, leb-false, not-true, not-false}
use Rattle.choice.specs.Pick.{pick, ◌and◌, ◌or◌}
use Rattle.choice.proofs.{Picks.picked, Tests.tests, Tests.never, Tests.both, Tests.neither, Tests.join}
use Rattle.answers.specs.{Classes.refused, Classes.Class.performed, Answers.said, declared.Refusal.Refusal}
use Rattle.status_bits.specs.{declared.StatusCall.StatusCall, declared.StatusCall.TheVariants.Initialize}
use Rattle.status_bits.specs.Bits.{mark_linked, mark_cancelled, mark_initialized, mark_finished, mark_most, has, with}
use Rattle.status.specs.Status.{Marks, Entry, leaves_marks, bytes_sound, entry_of, put, marking, marks_of}
use Rattle.status.specs.Status.Entry.{At, No}
use Rattle.demand_steps.proofs.Testing.{right}
use Rattle.clauses.specs.Status.{Place, MarkClauses, Initializes, Cancels}
use Rattle.clauses.proofs.Splitting.{clash}

module _ (groups status : List ℕ) (id : ℕ) where
  -- what is found at the id
  data Found : Entry → Type 0 where
    none : (why : Refusal) → (Place groups status id → ⊥) → Found (No why)
    there : Place groups status id → Found (At id (get_or groups id 0) (get_or status id 0))

  found : Found (entry_of groups status id)
  unfolding entry_of
  found =
      picked Found _ (λ e. none _ (λ x. clash _ e x.sized)) (λ e₁. picked Found _ (λ e. none _ (λ x. clash _ e x.inside)) (λ e₂.
      picked Found _ (λ e. none _ (λ x. clash _ x.sound (not-true _ e))) (λ e. there (record { sized = e₁; inside = e₂; sound = not-false _ e }))))

  module _ (c : StatusCall) where
    abbrev Clauses : Marks → Type 0
    Clauses = MarkClauses groups status id c

    marks : {e : Entry} → Found e → Clauses (marking c status e)
    unfolding marking put
    marks (none why f) = record {
      c400 = (λ i. never (ap refused i), λ x. absurd (f x.0));
      c407 = λ i. never (ap refused i);
      c408 = λ i. refl;
    }
    marks (there p) =
        picked Clauses _ (λ e. record {
          c400 = (λ i. never (ap refused i), λ x. clash _ x.1 (not-true _ e));
          c407 = λ i. never (ap refused i);
          c408 = λ i. refl;
        }) (λ e. record {
          c400 = (λ i. (p, not-false _ e), λ x. refl);
          c407 = λ i. record {
            there = get_or-set_same status id _ 0 (leb-false _ _ (neither p.inside).1);
            others = λ j n. get_or-set_other status id j _ 0 n;
            size = length-set status id _;
          };
          c408 = λ i. absurd (i refl);
        })

    pub status-clauses : Clauses (marks_of groups status id c)
    status-clauses = marks found

same_flag : (bit a b : ℕ) → a / bit % 2 ≡ b / bit % 2 → has bit a ≡ has bit b
unfolding has
same_flag bit a b = ap (λ (k : ℕ). eqb k 1)

-- each flag is set alone
pub initialized_alone : (mark : ℕ) → Initializes mark (with mark_initialized mark)
unfolding with has
initialized_alone mark =
    picked (Initializes mark) _ (λ e. record { linked = refl; cancelled = refl; c412 = e; finished = refl }) (λ e. record {
      linked = same_flag mark_linked (mark + mark_initialized) mark (omega tests);
      cancelled = same_flag mark_cancelled (mark + mark_initialized) mark (omega tests);
      c412 = eq-eqb ((mark + mark_initialized) / mark_initialized % 2) 1 (omega tests);
      finished = omega tests;
    })

pub cancelled_alone : (mark : ℕ) → Cancels mark (with mark_cancelled mark)
unfolding with has
cancelled_alone mark =
    picked (Cancels mark) _ (λ e. record { linked = refl; c388 = e; initialized = refl; finished = refl }) (λ e. record {
      linked = same_flag mark_linked (mark + mark_cancelled) mark (omega tests);
      c388 = eq-eqb ((mark + mark_cancelled) / mark_cancelled % 2) 1 (omega tests);
      initialized =
          let h : (mark + mark_cancelled) / mark_initialized ≡ mark / mark_initialized = omega tests in
          same_flag mark_initialized (mark + mark_cancelled) mark (ap (λ (k : ℕ). k % 2) h);
      finished = omega tests;
    })

-- where the bytes of an id are sound, they stay so: a new link, and a linked byte of which one flag is set
pub linked_sound : (group mark : ℕ) → bytes_sound group mark ≡ true → bytes_sound group mark_linked ≡ true
unfolding bytes_sound has
linked_sound group mark e = join (join (both (both e).0).0 refl) (right _ refl)

sound_after : (group mark after : ℕ) → bytes_sound group mark ≡ true → has mark_linked mark ≡ true → has mark_linked after ≡ has mark_linked mark
    → after / mark_finished ≡ mark / mark_finished → bytes_sound group after ≡ true
unfolding bytes_sound
sound_after group mark after e l p q =
    let x = both (both e).0 in
    join (join x.0 (le-leb after mark_most (omega (tests, x.1)))) (right _ (p ∙ l))

pub initialized_sound : (group mark : ℕ) → bytes_sound group mark ≡ true → has mark_linked mark ≡ true → bytes_sound group (with mark_initialized mark) ≡ true
initialized_sound group mark e l = let x = initialized_alone mark in sound_after group mark _ e l x.linked x.finished

pub cancelled_sound : (group mark : ℕ) → bytes_sound group mark ≡ true → has mark_linked mark ≡ true → bytes_sound group (with mark_cancelled mark) ≡ true
cancelled_sound group mark e l = let x = cancelled_alone mark in sound_after group mark _ e l x.linked x.finished

-- initializing is not always refused: a live and settled group, linked
pub initialize_possible : marks_of (0 ∷ 3 ∷ []) (0 ∷ 1 ∷ []) 1 Initialize ≡ leaves_marks (said performed []) (0 ∷ 5 ∷ [])
unfolding entry_of bytes_sound marking put with has pick ◌and◌ ◌or◌
initialize_possible = refl
