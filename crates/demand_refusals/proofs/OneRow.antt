-- Of rows with distinct numbers, which an answer fits, exactly one is given: the cases are complete and disjoint. Assumes nothing.
use Prim.Native.Nat.{ℕ}
use mathlib.Core.Path.{◌≡◌, refl, sym, ◌∙◌, ap}
use mathlib.Core.Bool.{Bool, true, false}
use mathlib.Core.List.{List, [], ◌∷◌}
use lib.Dec.{eqb}
use borrow.Author.Tests.{not-true, eqb-true, eqb-false, eq-eqb, ne_eqb}
use Rattle.choice.specs.Pick.{pick}
use Rattle.choice.proofs.Tests.{never, both, either, neither, test}
use Rattle.demand_refusals.specs.Rows.{Row, given, numbers, among, distinct, how_many}
use Rattle.demand_refusals.proofs.Rows.{View, Fits}

turned_round : (a b : ℕ) → eqb a b ≡ false → eqb b a ≡ false
turned_round a b h = ne_eqb b a (λ e. eqb-false a b h (sym e))

both_false : (b : Bool) {x y : Bool} → x ≡ false → y ≡ false → pick b x y ≡ false
unfolding pick
both_false true p q = p
both_false false p q = q

-- a number that no row has is not given
absent : (rows : List Row) (n : ℕ) → among n (numbers rows) ≡ false → given rows n ≡ false
unfolding among given
absent [] n h = refl
absent (row ∷ rows) n h = let p = neither h in both_false row.test p.0 (absent rows n p.1)

-- a number that is given is one of theirs
present : (rows : List Row) (n : ℕ) → given rows n ≡ true → among n (numbers rows) ≡ true
present rows n h = test (among n (numbers rows)) (λ e. e) (λ e. never (sym h ∙ absent rows n e))

-- a test that only x passes
abbrev pub Only : ℕ → (ℕ → Bool) → Type 0
Only x f = (n : ℕ) → eqb x n ≡ f n

-- none of the others passes it
none_passes : (x : ℕ) (f : ℕ → Bool) (ns : List ℕ) → Only x f → among x ns ≡ false → how_many f ns ≡ 0
unfolding how_many among pick
none_passes x f [] o h = refl
none_passes x f (n ∷ ns) o h = let p = neither h in simp (sym (o n) ∙ turned_round n x p.0, none_passes x f ns o p.1)

-- exactly one of distinct numbers does, which have x among them
pub one_passes : (x : ℕ) (f : ℕ → Bool) (ns : List ℕ) → Only x f → distinct ns ≡ true → among x ns ≡ true → how_many f ns ≡ 1
unfolding how_many among distinct pick
one_passes x f [] o d h = never (sym h)
one_passes x f (n ∷ ns) o d h =
    let p = both d in
    test (eqb n x)
    (λ e.
    let same = eqb-true n x e in
    let rest : among x ns ≡ false = sym (ap (λ (m : ℕ). among m ns) same) ∙ not-true _ p.0 in
    simp (sym (o n) ∙ eq-eqb x n (sym same), none_passes x f ns o rest))
    (λ e. simp (sym (o n) ∙ turned_round n x e) (one_passes x f ns o p.1 (either h (λ z. never (sym z ∙ e)) (λ z. z))))

-- rows with the numbers ns, which are distinct and without 12
abbrev pub Listed : List Row → List ℕ → Type 0
Listed rows ns = (numbers rows ≡ ns) × (distinct (12 ∷ ns) ≡ true)

pub apart : (ns : List ℕ) → distinct (12 ∷ ns) ≡ true → distinct ns ≡ true
unfolding distinct
apart ns d = (both d).1

module _ {A : Type 0} {v : View A} {x : A} (rows : List Row) {ns : List ℕ} (l : Listed rows ns) (f : Fits v x rows) where
  -- the number of an answer that fits is listed
  pub one_listed : among (v.number x) ns ≡ true
  one_listed =
      ap (among (v.number x)) (sym l.0) ∙ present rows (v.number x) (sym (f.exact (v.number x)) ∙ eq-eqb (v.number x) (v.number x) refl)

  -- and exactly one of the rows is given
  pub one_given : how_many (given rows) ns ≡ 1
  one_given = one_passes (v.number x) (given rows) ns f.exact (apart ns l.1) one_listed

-- a call that does not answer k answers another number
pub unlisted : (n k : ℕ) (ns : List ℕ) → among n ns ≡ true → among k ns ≡ false → eqb n k ≡ false
unlisted n k ns h e = ne_eqb n k (λ p. never (sym h ∙ ap (λ (m : ℕ). among m ns) p ∙ e))
