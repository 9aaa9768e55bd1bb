-- Demand 1 for the recorder: through the log a call answers 12 exactly where its inner answer is to be written and the log is full, and
-- else that answer; a refusal returns the record that was given and leaves all that was lent, but for the log entry of an ask answered 4
-- or 5. Assumes nothing.
use Prim.Native.Nat.{ℕ}
use mathlib.Core.Path.{◌≡◌, refl, ◌∙◌, ap}
use mathlib.Core.Bool.{Bool, true, false}
use mathlib.Core.List.{List, ◌∷◌}
use lib.Dec.{eqb}
use Rattle.choice.specs.Pick.{pick, ◌or◌}
use Rattle.choice.proofs.Tests.{never, no_left}
use Rattle.answers.specs.Classes.{number_of, refused}
use Rattle.record.specs.declared.Record.{Record}
use Rattle.log_layout.specs.Log.{full}
use Rattle.calls.specs.Lending.{Lending, call_of, lent}
use Rattle.calls.specs.Kinds.{kind}
use Rattle.noting.specs.Through.{inner, leaves_through}
use Rattle.demand_refusals.specs.Rows.{among, distinct, how_many}
use Rattle.demand_refusals.specs.Refusals.{returned, numbers_of}
use Rattle.demand_refusals.specs.Through.{given_through, numbers_through, log_after}
use Rattle.demand_refusals.proofs.OneRow.{one_passes, apart}
use Rattle.demand_refusals.proofs.Refusals.{spoken}
use Rattle.demand_refusals.proofs.ExactRefusals.{exact-refusals, listed_answer}
use Rattle.demand_refusals.proofs.Written.{no_kind_lem}
use Rattle.demand_refusals.proofs.Logged.{ends_as}

tested : (b : Bool) (x y : ℕ) (f : ℕ → Bool) {p q : Bool} → f x ≡ p → f y ≡ q → f (pick b x y) ≡ pick b p q
unfolding pick
tested true x y f e g = e
tested false x y f e g = g

either_way : (a : Bool) {b : Bool} → b ≡ true → a or b ≡ true
unfolding ◌or◌
either_way true e = refl
either_way false e = e

-- 12 is given only where it is listed
twelve_listed : (b k : Bool) (n : ℕ) (ns : List ℕ) → (k ≡ true → b ≡ false) → among n ns ≡ true → among (pick b 12 n) (pick k ns (12 ∷ ns)) ≡ true
unfolding pick among ◌or◌
twelve_listed true true n ns e h = never (e refl)
twelve_listed true false n ns e h = refl
twelve_listed false true n ns e h = h
twelve_listed false false n ns e h = either_way (eqb 12 n) h

distinct_through : (k : Bool) (ns : List ℕ) → distinct (12 ∷ ns) ≡ true → distinct (pick k ns (12 ∷ ns)) ≡ true
unfolding pick
distinct_through true ns d = apart ns d
distinct_through false ns d = d

module _ (r : Record) (log : List ℕ) (c : Lending true) where
  abbrev n : ℕ
  n = (inner r log c).number

  pub recorder_exact : (k : ℕ) → eqb (leaves_through r log c).told.number k ≡ given_through r log c k
  unfolding given_through
  recorder_exact k = ap (λ (m : ℕ). eqb m k) (ends_as r log c).number ∙ tested _ 12 n (λ (m : ℕ). eqb m k) refl (exact-refusals _ _ r (call_of c) k)

  pub recorder_listed : among (leaves_through r log c).told.number (numbers_through c) ≡ true
  unfolding numbers_through
  recorder_listed =
      ap (λ (m : ℕ). among m (numbers_through c)) (ends_as r log c).number
      ∙ twelve_listed _ _ n (numbers_of (call_of c)) (λ e. no_left (full log) (no_kind_lem (kind c) _ e)) (listed_answer _ _ r (call_of c))

  -- exactly one answer is given
  pub recorder_one : how_many (given_through r log c) (numbers_through c) ≡ 1
  unfolding numbers_through
  recorder_one =
      one_passes _ (given_through r log c) (numbers_through c) recorder_exact
      (distinct_through _ (numbers_of (call_of c)) (spoken true true r (call_of c)).1.1) recorder_listed

  pub recorder_named : (leaves_through r log c).told.number ≡ number_of (leaves_through r log c).told.class
  recorder_named = (ends_as r log c).named

  pub recorder_refusal : refused (leaves_through r log c).told.class ≡ true
      → ((leaves_through r log c).told.state ≡ returned r (call_of c))
      × ((leaves_through r log c).lent ≡ log_after r log (kind c) (leaves_through r log c).told.number ∷ lent c)
  recorder_refusal = (ends_as r log c).refusal
