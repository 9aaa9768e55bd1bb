-- How every call through the log ends: what number it answers, and what a refusal leaves. Assumes nothing.
use Prim.Native.Nat.{ℕ}
use mathlib.Core.Path.{◌≡◌, refl, sym}
use mathlib.Core.Bool.{Bool, true, false, not}
use mathlib.Core.List.{List, ◌∷◌}
use Rattle.choice.specs.Pick.{pick, ◌and◌, ◌or◌}
use Rattle.choice.proofs.Tests.{no_right}
use Rattle.answers.specs.Classes.{number_of, refused}
use Rattle.record.specs.Answers.{Told, refuse}
use Rattle.record.specs.Leaves.{Leaves, leaves}
use Rattle.record.specs.declared.Record.{Record}
use Rattle.answers.specs.declared.Refusal.TheVariants.{LogFull}
use Rattle.log_layout.specs.Log.{sound, full, appended}
use Rattle.calls.specs.Calls.{AnyCall, step_of}
use Rattle.calls.specs.Calls.AnyCall.{opens, calls}
use Rattle.calls.specs.Lending.{Lending, call_of, lent, fits, moved}
use Rattle.calls.specs.Kinds.{kind_of, kind_of_any, written_as}
use Rattle.noting.specs.Recorded.{with_log, besides, recorded}
use Rattle.noting.specs.Through.{inner, logs, leaves_through}
use Rattle.demand_refusals.specs.Refusals.{returned}
use Rattle.demand_refusals.specs.Through.{entered, log_after}
use Rattle.demand_refusals.proofs.ExactRefusals.{named-answer, refusal-returns}
use Rattle.demand_refusals.proofs.Written.{noted, written_sound}

not_twelve : (k : ℕ) → entered k 12 ≡ false
unfolding entered ◌or◌
not_twelve k = no_right _ refl

module _ (r : Record) (log : List ℕ) where
  -- v is left by a call of kind k, whose inner answer is t: w whether that is written, f whether the log is full; a refusal returns back
  pub record Ends (v : Leaves) (k : ℕ) (t : Told) (w f : Bool) (back : Record) (lent : List (List ℕ)) : Type 0 where
    pub number : v.told.number ≡ pick (w and f) 12 t.number
    pub named : v.told.number ≡ number_of v.told.class
    pub refusal : refused v.told.class ≡ true → (v.told.state ≡ back) × (v.lent ≡ log_after r log k v.told.number ∷ lent)

  abbrev EndsAs : AnyCall → Told → List (List ℕ) → Leaves → Type 0
  EndsAs c t lent v = Ends v (kind_of_any c) t (written_as (kind_of_any c) t.class) (full log) (returned r c) lent

  -- `recorded` by its tests
  module _ (k : ℕ) (t : Told) (lent moved : List (List ℕ)) (n : t.number ≡ number_of t.class) (state : refused t.class ≡ true → t.state ≡ r) where
    by_tests : (w f : Bool) → (refused t.class ≡ true → w ≡ entered k t.number) → (w ≡ true → sound log ≡ true) → full log ≡ f
        → Ends (pick (not w) (leaves t (log ∷ besides t lent moved)) (pick f (leaves (refuse LogFull r) (log ∷ lent))
        (leaves t (appended k t.number t.state.serial t.state.revision log ∷ besides t lent moved)))) k t w f r lent
    unfolding pick log_after appended ◌and◌
    by_tests false f e s q = record { number = refl; named = n; refusal = λ h. (state h, simp (h, sym (e h))) }
    by_tests true true e s q = record { number = refl; named = refl; refusal = λ h. (refl, simp (not_twelve k)) }
    by_tests true false e s q = record { number = refl; named = n; refusal = λ h. (state h, simp (h, sym (e h), s refl, q, state h)) }

  module _ (fits : Bool) (lent moved : List (List ℕ)) where
    abbrev told : AnyCall → Told
    told c = step_of (with_log fits log).sized (with_log fits log).sound r c

    ends-any : (c : AnyCall) → EndsAs c (told c) lent (logs c (told c) r log lent moved)
    unfolding recorded returned with_log written_as entered log_after pick ◌and◌ ◌or◌
    ends-any (opens given n) = record {
      number = refl;
      named = named-answer _ true r (opens given n);
      refusal = λ h. (refusal-returns _ true r (opens given n) h, simp h);
    }
    ends-any (calls c) =
        by_tests (kind_of c) (told (calls c)) lent moved (named-answer _ _ r (calls c)) (refusal-returns _ _ r (calls c)) _ (full log)
        (noted _ _ r (calls c)) (written_sound _ _ r c) refl

  pub ends_as : (c : Lending true) → EndsAs (call_of c) (inner r log c) (lent c) (leaves_through r log c)
  unfolding leaves_through
  ends_as c = ends-any (fits c) (lent c) (moved r c) (call_of c)
