-- How a clause is shown of a step: on a whole record it is the call's own, whose refusals stand in a row, whose tests are split one by
-- one, and whose report is split by its outcome. Assumes nothing.
use Prim.Native.Nat.{ℕ}
use mathlib.Core.{Path.◌≡◌, Path.refl, Path.sym, Path.◌∙◌, Path.ap, Path.subst, Bool.Bool, Bool.true, Bool.false, Bool.◌&&◌, List.List, List.[], List.◌∷◌, Logic.◌↔◌}
use lib.Dec.{eqb}
use borrow.Author.Tests.{ne_eqb}
use Rattle.choice.specs.Pick.{pick, ◌and◌, ◌or◌}
use Rattle.choice.proofs.{Picks.picked, Tests.never, Tests.both, Tests.eqb_ne}
use Rattle.record.specs.{Answers.Told, Answers.told, Answers.refuse, Given.effect_of, declared.Record.Record, declared.Outcome.Outcome, Given.standing}
use Rattle.answers.specs.{Classes.Class.performed, Classes.Class.refusal, Classes.Class.stepping, Classes.StepAnswer.finished, Answers.said}
use Rattle.answers.specs.{declared.Refusal.Refusal}
use Rattle.answers.specs.Classes.{Class, StepAnswer, refusal_number, number_of, refused, takes, taken}
use Rattle.record.specs.declared.Outcome.TheVariants as O
use Rattle.answers.specs.declared.Refusal.TheVariants.{NotReady, Recovering}
use Rattle.wholeness.specs.{Whole.whole}
use Rattle.answers.specs.declared.Refusal.{Refusal}
use Rattle.bars.specs.{Bars.Bar}
use Rattle.gates.specs.{Gates.barring}
use Rattle.bars.proofs.Passing.{Clear}
use Rattle.reporting.specs.Reporting.{reported}
use Rattle.calls.specs.Calls.{Call, step}
use Rattle.demand_steps.specs.Typed.{Typed}
use Rattle.demand_steps.proofs.{Own.own, Own.whole_step, Facts.Whole, Classify.leaf, Preserve.preserve, Reading.whole_facts, Wholeness.whole_test}
use Rattle.clauses.specs.{Keeping.gains, Polls.unfinished}
pub use Rattle.demand_chains.proofs.Granting.{clash}

-- a test that does not hold
pub nope : {P : Type 0} → false ≡ true → P
nope e = never (sym e)

-- answers that are not the same: of different numbers, and Finished where no Done report is taken
pub differ : {P : Type 0} {a b : Class} → eqb (number_of a) (number_of b) ≡ false → a ≡ b → P
differ n e = absurd (eqb_ne _ _ n (ap number_of e))

pub unended : {P : Type 0} {c : Class} → taken c ≡ false → c ≡ stepping finished → P
unended n e = clash _ (ap taken e) n

-- neither of two tests holds
pub nor : {a b : Bool} → a ≡ false → b ≡ false → a or b ≡ false
unfolding ◌or◌
nor x y = rw (x, y)

-- a claim, where the record afterwards is known to be whole
abbrev pub Kept : (Told → Type 0) → Told → Type 0
Kept P t = whole t.state ≡ true → P t

-- one test of a step
pub by : (P : Told → Type 0) {x y : Told} (b : Bool) → (b ≡ true → Kept P x) → (b ≡ false → Kept P y) → Kept P (pick b x y)
by P b f g = picked (Kept P) b f g

-- a refusal that the clauses gain is neither 4 nor 5
pub beyond : (why : Refusal) → gains why ≡ true → unfinished (refusal why) ≡ false
unfolding ◌or◌
beyond why g =
    nor (ne_eqb _ (refusal_number NotReady) (λ (z : refusal_number why ≡ _). nope (rw z at g)))
    (ne_eqb _ (refusal_number Recovering) (λ (z : refusal_number why ≡ _). nope (rw z at g)))

-- a report's refusals in a row, all of them such, and what is done where none is given
abbrev pub all_gained : List (Bar Refusal) → Bool
all_gained [] = true
all_gained (b ∷ bs) = gains b.why && all_gained bs

pub past : (P : Told → Type 0) (r : Record) → ((why : Refusal) → gains why ≡ true → Kept P (refuse why r)) →
    (bs : List (Bar Refusal)) {done : Told} → all_gained bs ≡ true → (Clear bs → Kept P done) → Kept P (barring bs r done)
unfolding ◌and◌
past P r f [] h g = g refl
past P r f (b ∷ bs) h g = let x = both {a = gains b.why} h in by P b.test (λ e. f b.why x.0) (λ e. past P r f bs x.1 (λ y. g (e, y)))

-- a report by its outcome: no Done report is taken, or what it does
pub outcomes : (P : Told → Type 0) (x : Outcome) {s : Record} {done : Told} →
    ((a : StepAnswer) (vs : List ℕ) → takes a ≡ false → Kept P (told (said (stepping a) vs) s)) → Kept P done → Kept P (reported (effect_of x) s done)
unfolding reported
outcomes P O.Waiting f p = f _ _ refl
outcomes P (O.Failed code) f p = f _ _ refl
outcomes P O.Done f p = p

-- each refusal of a row, where none before it is given
abbrev pub Each : (Class → Type 0) → List (Bar Refusal) → Type 0
Each E [] = true ≡ true
Each E (b ∷ bs) = (b.test ≡ true → E (refusal b.why)) × (b.test ≡ false → Each E bs)

pub bar : {A B : Type 0} → A → B → A × B
bar f g = (f, g)

-- what a row comes to: the first refusal whose test holds, or what is done
pub data Decided (r : Record) (E : Class → Type 0) (done : Told) (bs : List (Bar Refusal)) : Told → Type 0 where
  refuses : {why : Refusal} → (Clear bs → ⊥) → E (refusal why) → Decided r E done bs (refuse why r)
  does : Clear bs → Decided r E done bs done

module _ {r : Record} {E : Class → Type 0} {done : Told} where
  passes : {b : Bar Refusal} {bs : List (Bar Refusal)} {t : Told} → b.test ≡ false → Decided r E done bs t → Decided r E done (b ∷ bs) t
  passes e (refuses n x) = refuses (λ y. n y.1) x
  passes e (does y) = does (e, y)

  pub decide : (bs : List (Bar Refusal)) → Each E bs → Decided r E done bs (barring bs r done)
  decide [] x = does refl
  decide (b ∷ bs) x = picked (Decided r E done (b ∷ bs)) b.test (λ e. refuses (λ y. clash _ e y.0) (x.0 e)) (λ e. passes e (decide bs (x.1 e)))

  -- it is performed exactly where no test holds
  pub decides : {bs : List (Bar Refusal)} {t : Told} {C : Type 0} → Decided r E done bs t → done.class ≡ performed → (Clear bs → C) → (C → Clear bs) → (t.class ≡ performed) ↔ C
  decides (refuses n x) p f g = (λ i. never (ap refused i), λ c. absurd (n (g c)))
  decides (does y) p f g = (λ i. f y, λ c. p)

  pub only : {bs : List (Bar Refusal)} {t : Told} (P : Told → Type 0) → Decided r E done bs t → (Clear bs → P done) → t.class ≡ performed → P t
  only P (refuses n x) f i = never (ap refused i)
  only P (does y) f i = f y

  -- else the record stays
  pub denied : {bs : List (Bar Refusal)} {t : Told} → Decided r E done bs t → done.class ≡ performed → refused t.class ≡ true → (t.state ≡ r) × E t.class
  denied (refuses n x) p i = (refl, x)
  denied (does y) p i = clash _ i (ap refused p)

  pub keeps : {bs : List (Bar Refusal)} {t : Told} (Q : Record → Type 0) → Decided r E done bs t → Q r → Q done.state → Q t.state
  keeps Q (refuses n x) q d = q
  keeps Q (does y) q d = d

-- the step of a whole record, whose revision is a u64
module _ (r : Record) (m : Typed (standing r)) (w : whole r ≡ true) (c : Call) where
  pub facts_after : Whole (step r c).state
  facts_after = preserve (whole_facts r m w) (leaf r c)

  pub still_whole : whole (step r c).state ≡ true
  still_whole = whole_test facts_after

  pub on_step : (P : Told → Type 0) → Kept P (own r c) → P (step r c)
  on_step P f = subst (Kept P) (sym (whole_step r c w)) f still_whole

-- its refusals in a row
pub settled : (r : Record) (c : Call) {E : Class → Type 0} {done : Told} (bs : List (Bar Refusal)) →
    whole r ≡ true → own r c ≡ barring bs r done → Each E bs → Decided r E done bs (step r c)
settled r c {E} {done} bs w e x = subst (Decided r E done bs) (sym (whole_step r c w ∙ e)) (decide bs x)
