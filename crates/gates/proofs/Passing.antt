-- What a gate lets through: one law for the refusals that every call begins with, one for what comes after, and one for payloads that
-- fit. Assumes nothing.
use Prim.Native.Nat.{ℕ, ◌≤◌}
use mathlib.Core.Path.{◌≡◌, refl, sym, ◌∙◌, ap}
use mathlib.Core.Bool.{Bool, true, false, not}
use mathlib.Core.List.{List, [], ◌∷◌}
use Rattle.std.specs.Prelude.{Result, Ok, Err}
use Rattle.choice.specs.Pick.{pick, ◌and◌}
use Rattle.choice.proofs.Picks.{no}
use Rattle.choice.proofs.Tests.{both}
use Rattle.areas.specs.Areas.{area_size}
use Rattle.areas.proofs.Laws.{not_over}
use Rattle.wholeness.specs.Whole.{whole}
use Rattle.record.specs.Answers.{Told, refuse}
use Rattle.answers.specs.Classes.{is}
use Rattle.bars.specs.Bars.{Bar, through}
use Rattle.bars.proofs.Passing.{Clear, apart}
use Rattle.gates.specs.Gates.{gate_of, gated, barring, long_payloads}
use Rattle.record.specs.declared.Record.{Record}
use Rattle.answers.specs.declared.Refusal.{Refusal}
use Rattle.answers.specs.declared.Refusal.TheVariants.{BadArea, Damaged}

-- what a call has found when it goes on, or is refused
abbrev pub Gate : Type 0
Gate = Result (Unit {0}) Refusal

-- behind an open gate the record is whole, and all sizes are right
pub record Passed (sized sound : Bool) (r : Record) : Type 0 where
  pub fits : sized ≡ true
  pub clean : sound ≡ true
  pub is_whole : whole r ≡ true

opens : {P : Type 0} (sized inside : Bool) {g : Gate} → g ≡ pick (not sized) (Err BadArea) (pick inside (Ok tt) (Err Damaged)) → g ≡ Ok tt
    → (sized ≡ true → inside ≡ true → P) → P
unfolding pick
opens true true e h f = f refl refl
opens true false e h f = apart e h
opens false inside e h f = apart e h

pub passed : {g : Gate} (sized sound : Bool) (r : Record) → g ≡ gate_of sized sound r → g ≡ Ok tt → Passed sized sound r
unfolding gate_of
passed sized sound r e h = opens sized (sound and whole r) e h (λ p q. record { fits = p; clean = (both q).0; is_whole = (both q).1 })

-- a row of bars behind a gate is what the call's own refusals say
one_more : (t : Bool) (why : Refusal) (bs : List (Bar Refusal)) (r : Record) (done : Told) → gated (through (Err why) bs) r done ≡ refuse why r
    → gated (through (Ok tt) bs) r done ≡ barring bs r done → gated (through (pick t (Err why) (Ok tt)) bs) r done ≡ pick t (refuse why r) (barring bs r done)
unfolding pick
one_more true why bs r done p q = p
one_more false why bs r done p q = q

in_a_row : (g : Gate) (bs : List (Bar Refusal)) (r : Record) (done : Told) → gated (through g bs) r done ≡ gated g r (barring bs r done)
unfolding gated
in_a_row g [] r done = refl
in_a_row (Err why) (b ∷ bs) r done = in_a_row (Err why) bs r done
in_a_row (Ok u) (b ∷ bs) r done = one_more b.test b.why bs r done (in_a_row (Err b.why) bs r done) (in_a_row (Ok tt) bs r done)

-- so that a call which goes through a gate g, the definition's d with a row behind it, is its own: refused with what was found, and else done
module _ {g : Gate} (d : Gate) (bs : List (Bar Refusal)) (e : g ≡ through d bs) where
  pub barred_out : {why : Refusal} {z : Told} (r : Record) (done : Told) → g ≡ Err why → z ≡ refuse why r → z ≡ gated d r (barring bs r done)
  unfolding gated
  barred_out r done h p = p ∙ ap (λ (x : Gate). gated x r done) (sym h ∙ e) ∙ in_a_row d bs r done

  pub let_in : {z done : Told} (r : Record) → g ≡ Ok tt → z ≡ done → z ≡ gated d r (barring bs r done)
  unfolding gated
  let_in {done = done} r h p = p ∙ ap (λ (x : Gate). gated x r done) (sym h ∙ e) ∙ in_a_row d bs r done

-- payloads that fit are barred by neither of their two bars
pub payloads_pass : {c o : ℕ} (bs : List (Bar Refusal)) (r : Record) (done : Told) → c ≤ area_size → o ≤ area_size
    → barring (long_payloads c o bs) r done ≡ barring bs r done
payloads_pass bs r done p q = sym (no _ (not_over _ p) (no _ (not_over _ q) refl))

-- behind an open row the test of each refusal, found by its name in the row, fails: a refusal that the row does not have is never given
abbrev at : Bool → Bool → Bool → Bool
at true a b = a
at false a b = b

abbrev test_of : Refusal → List (Bar Refusal) → Bool
test_of why [] = false
test_of why (b ∷ bs) = at (is why b.why) b.test (test_of why bs)

abbrev pub Fails : List (Bar Refusal) → Type 0
Fails bs = (why : Refusal) → test_of why bs ≡ false

both_fail : (t : Bool) {a b : Bool} → a ≡ false → b ≡ false → at t a b ≡ false
both_fail true p q = p
both_fail false p q = q

pub fails : (bs : List (Bar Refusal)) → Clear bs → Fails bs
fails [] x why = refl
fails (b ∷ bs) x why = both_fail (is why b.why) x.0 (fails bs x.1 why)
