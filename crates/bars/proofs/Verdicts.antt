-- What a row of refusals says: bars before and behind others, and a row that lets a call through. Assumes nothing.
use Prim.Native.Nat.{ℕ}
use mathlib.Core.Path.{◌≡◌, refl, sym, ◌∙◌, ap}
use mathlib.Core.Bool.{Bool, true, false}
use mathlib.Core.List.{List, [], ◌∷◌, ◌++◌}
use native.Mathlib.Omega.{arith}
use Rattle.std.specs.Prelude.{Result, Ok, Err}
use Rattle.choice.specs.Pick.{pick}
use Rattle.bars.specs.Bars.{Bar, verdict}
use Rattle.bars.proofs.Passing.{Clear}

module _ {E : Type 0} where
  -- a row's word, and behind it another's, where the first lets a call through
  abbrev pub in_turn : Result (Unit {0}) E → Result (Unit {0}) E → Result (Unit {0}) E
  in_turn (Ok u) next = next
  in_turn (Err why) next = Err why

  behind : (test : Bool) (why : E) (v next : Result (Unit {0}) E) {w : Result (Unit {0}) E} → w ≡ in_turn v next → pick test (Err why) w ≡ in_turn (pick test (Err why) v) next
  unfolding pick
  behind true why v next e = refl
  behind false why v next e = e

  pub row_more : (bs cs : List (Bar E)) → verdict (bs ++ cs) ≡ in_turn (verdict bs) (verdict cs)
  row_more [] cs = refl
  row_more (b ∷ bs) cs = behind b.test b.why (verdict bs) (verdict cs) (row_more bs cs)

  -- the code's word r of the bars bs: a refusal, which is the longer row's, or none, and then the rest of the row says the same as it
  pub refused_in : {r : Result (Unit {0}) E} {why : E} (bs cs : List (Bar E)) → r ≡ verdict bs → r ≡ Err why → Err why ≡ verdict (bs ++ cs)
  refused_in bs cs e h = ap (λ (x : Result (Unit {0}) E). in_turn x (verdict cs)) (sym h ∙ e) ∙ sym (row_more bs cs)

  pub let_by : {r z : Result (Unit {0}) E} (bs cs : List (Bar E)) → r ≡ verdict bs → r ≡ Ok tt → z ≡ verdict cs → z ≡ verdict (bs ++ cs)
  let_by bs cs e h p = p ∙ ap (λ (x : Result (Unit {0}) E). in_turn x (verdict cs)) (sym h ∙ e) ∙ sym (row_more bs cs)

  refusals : Result (Unit {0}) E → ℕ
  refusals (Ok u) = 0
  refusals (Err why) = 1

  unbarred : (test : Bool) (why : E) (v : Result (Unit {0}) E) → pick test (Err why) v ≡ Ok tt → (test ≡ false) × (v ≡ Ok tt)
  unfolding pick refusals
  unbarred true why v h = let z = ap refusals h in absurd (omega (arith, z))
  unbarred false why v h = (refl, h)

  -- where a row lets a call through, no test holds
  pub clear : (bs : List (Bar E)) → verdict bs ≡ Ok tt → Clear bs
  clear [] h = refl
  clear (b ∷ bs) h = let u = unbarred b.test _ _ h in (u.0, clear bs u.1)
