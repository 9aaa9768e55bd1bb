-- Laws of rows: how a definition by nested picks fits a list of rows, one law for each way that a row comes about. Assumes
-- nothing.
use Prim.Native.Nat.{ℕ}
use mathlib.Core.Path.{◌≡◌, refl, sym, ◌∙◌, ap}
use mathlib.Core.Bool.{Bool, true, false, not}
use mathlib.Core.List.{List, [], ◌∷◌}
use lib.Dec.{eqb}
use Rattle.choice.specs.Pick.{pick, ◌and◌, ◌or◌}
use Rattle.choice.proofs.Tests.{never}
use Rattle.answers.specs.Classes.{Class, number_of, refused}
use Rattle.demand_refusals.specs.Rows.{Row, ◌when◌, otherwise, given}

-- the class and the number of an answer, and what it says of all that the call was given where it is a refusal
pub record View (A : Type 0) : Type 1 where
  pub class : A → Class
  pub number : A → ℕ
  pub same : A → Type 0

-- an answer is given exactly by its rows, under the number of its class, and a refusal leaves all the same
pub record Fits {A : Type 0} (v : View A) (x : A) (rows : List Row) : Type 0 where
  pub exact : (n : ℕ) → eqb (v.number x) n ≡ given rows n
  pub named : v.number x ≡ number_of (v.class x)
  pub kept : refused (v.class x) ≡ true → v.same x

-- one answer of number k, which leaves all the same or is no refusal
pub data Leaf {A : Type 0} (v : View A) (x : A) (k : ℕ) : Type 0 where
  stays : v.number x ≡ k → number_of (v.class x) ≡ k → v.same x → Leaf v x k
  goes : v.number x ≡ k → number_of (v.class x) ≡ k → refused (v.class x) ≡ false → Leaf v x k

module _ {A : Type 0} {v : View A} where
  -- the first row holds, or it does not
  pub now : {x : A} {k : ℕ} {rest : List Row} → Leaf v x k → Fits v x (k when true ∷ rest)
  unfolding given pick
  now (stays e c s) = record { exact = λ n. ap (λ (m : ℕ). eqb m n) e; named = e ∙ sym c; kept = λ h. s }
  now (goes e c f) = record { exact = λ n. ap (λ (m : ℕ). eqb m n) e; named = e ∙ sym c; kept = λ h. never (sym h ∙ f) }

  pub later : {x : A} {k : ℕ} {rest : List Row} → Fits v x rest → Fits v x (k when false ∷ rest)
  unfolding given pick
  later f = record { exact = f.exact; named = f.named; kept = f.kept }

  -- a test that no row asks
  pub alike : {x y : A} {rows : List Row} (b : Bool) → Fits v x rows → Fits v y rows → Fits v (pick b x y) rows
  unfolding pick
  alike true f g = f
  alike false f g = g

  -- a test gives its row
  pub row : {x y : A} {k : ℕ} {rest : List Row} (b : Bool) → Leaf v x k → (b ≡ false → Fits v y rest) → Fits v (pick b x y) (k when b ∷ rest)
  unfolding pick
  row true l f = now l
  row false l f = later (f refl)

  -- the last row
  pub last : {x : A} {k : ℕ} → v.number x ≡ k → number_of (v.class x) ≡ k → refused (v.class x) ≡ false → Fits v x (k when otherwise ∷ [])
  last e c f = now (goes e c f)

  -- a number is given again by the test after the next
  pub around : {x y : A} {k m : ℕ} {rest : List Row} (a b c : Bool) → Leaf v x k → Fits v y (m when b ∷ k when c ∷ rest)
      → Fits v (pick a x y) (m when (not a and b) ∷ k when (a or c) ∷ rest)
  unfolding pick ◌and◌ ◌or◌
  around true b c l f = later (now l)
  around false b c l f = f

-- an answer that is made from another by F, which is a case of nested picks
abbrev pub along : {A B : Type 0} → (A → B) → View B → View A
along F v = record { class = λ x. v.class (F x); number = λ x. v.number (F x); same = λ x. v.same (F x) }

module _ {A B : Type 0} (F : A → B) {v : View B} {x : A} {rows : List Row} where
  pub under : Fits v (F x) rows → Fits (along F v) x rows
  under f = record { exact = f.exact; named = f.named; kept = f.kept }

  pub over : Fits (along F v) x rows → Fits v (F x) rows
  over f = record { exact = f.exact; named = f.named; kept = f.kept }
