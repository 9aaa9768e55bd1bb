-- The two ways in which a call ends: refused, with all that was lent as it was; or not, with what was moved. Assumes nothing.
use Prim.Native.Nat.{ℕ}
use mathlib.Core.Path.{◌≡◌, refl, ap, ◌∙◌}
use mathlib.Core.Bool.{Bool, true, false, not}
use mathlib.Core.List.{List, [], ◌∷◌, ◌++◌}
use borrow.Author.Tests.{not-true, not-false}
use Rattle.choice.specs.Pick.{pick}
use Rattle.choice.proofs.Picks.{yes, no, told}
use Rattle.answers.specs.Classes.{refused}
use Rattle.record.specs.Answers.{Told}
use Rattle.record.specs.Leaves.{Leaves, leaves, moving}
use borrow.Author.Rules.{rules}

-- what a step told was asked whether it is a refusal
module _ (t : Told) {b : Bool} (q : b ≡ refused t.class) where
  pub stays : {lent : List (List ℕ)} (moved : List (List ℕ)) → not b ≡ false → leaves t lent ≡ moving t lent moved
  stays moved h = ap (leaves t) (yes moved (told q (not-false b h)) refl)

  pub moves : {now moved : List (List ℕ)} (lent : List (List ℕ)) → not b ≡ true → now ≡ moved → leaves t now ≡ moving t lent moved
  moves lent h p = ap (leaves t) (no lent (told q (not-true b h)) p)

-- areas one by one
pub three : {a a' b b' c c' : List ℕ} → a ≡ a' → b ≡ b' → c ≡ c' → a ∷ b ∷ c ∷ [] ≡ a' ∷ b' ∷ c' ∷ []
three p q h = cc

-- two moves in turn, of what one step told
side_by_side : (b : Bool) (l m l' m' : List (List ℕ)) → pick b l m ++ pick b l' m' ≡ pick b (l ++ l') (m ++ m')
unfolding pick
side_by_side true l m l' m' = refl
side_by_side false l m l' m' = refl

pub in_turn : {s t u : Told} {now now' : List (List ℕ)} (lent moved lent' moved' : List (List ℕ)) → leaves s now ≡ moving t lent moved
    → leaves u now' ≡ moving s lent' moved' → leaves u (now ++ now') ≡ moving t (lent ++ lent') (moved ++ moved')
in_turn {now = now} lent moved lent' moved' e h =
    ap (λ (x : Leaves). leaves x.told (now ++ x.lent)) h
    ∙ ap (λ (x : Leaves). leaves x.told (x.lent ++ pick (refused x.told.class) lent' moved')) e
    ∙ ap (leaves _) (side_by_side _ lent moved lent' moved')

pub ruleset ends = (rules, stays, moves, three)
