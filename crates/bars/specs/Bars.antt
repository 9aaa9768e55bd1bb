-- Document 01, "What a call answers", and document 02, request 2: refusals in their order, whatever they are numbered by. Assumes nothing.
use Rattle.std.specs.Prelude.{Bool, List, [], ◌∷◌, Result, Ok, Err}
use Rattle.choice.specs.Pick.{pick}

-- a refusal, with the test under which it is given
pub record Bar (E : Type 0) : Type 0 where
  pub why : E
  pub test : Bool

infix 68 ◌whenever◌
abbrev pub ◌whenever◌ : {E : Type 0} → E → Bool → Bar E
why whenever test = record { why = why; test = test }

-- what was found so far, with one more bar behind it: none was given yet, or the first that was stays
abbrev pub barred : {E : Type 0} → Result (Unit {0}) E → Bool → E → Result (Unit {0}) E
barred (Ok u) test why = pick test (Err why) (Ok tt)
barred (Err first) test why = Err first

-- and with a row of them
abbrev pub through : {E : Type 0} → Result (Unit {0}) E → List (Bar E) → Result (Unit {0}) E
through g [] = g
through g (b ∷ bs) = through (barred g b.test b.why) bs

-- "the call's own in the order below": the first whose test holds is given, and where none does, the call goes on
abbrev pub verdict : {E : Type 0} → List (Bar E) → Result (Unit {0}) E
verdict [] = Ok tt
verdict (b ∷ bs) = pick b.test (Err b.why) (verdict bs)
