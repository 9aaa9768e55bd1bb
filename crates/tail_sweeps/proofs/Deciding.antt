-- What is decided by a sweep is what the definitions say of the words: of finding and of moving. Assumes nothing.
use Prim.Native.Nat.{ℕ, ◌≤◌, ◌*◌, ◌%◌, ◌/◌}
use mathlib.Core.Path.{◌≡◌, refl, sym, ◌∙◌, ap}
use mathlib.Core.Bool.{Bool, true, false, not, ◌||◌}
use mathlib.Core.List.{List, [], ◌∷◌}
use native.Mathlib.Omega.{arith}
use lib.Dec.{eqb, leb, ltb}
use lib.ListN.{length, take}
use lib.Seq.{length-take-le}
use borrow.Author.Tests.{ltb-false, le-leb, leb-true, leb-false, lt-ltb, le-ltb, eqb-true, eq-eqb, not-false}
use Rattle.choice.specs.Pick.{pick, ◌and◌, ◌or◌}
use Rattle.choice.proofs.Tests.{test, both, join, neither}
use Rattle.choice.proofs.Picks.{yes, no, picked}
use Rattle.wholeness.specs.Whole.{whole}
use Rattle.step_stamps.specs.Stamping.{passes}
use Rattle.std.specs.Prelude.{Err}
use Rattle.bars.specs.Bars.{Bar, ◌whenever◌, verdict}
use Rattle.tail_answers.specs.TailAnswers.{Verdict}
use Rattle.tail_answers.specs.declared.TailRefusal.{TailRefusal}
use Rattle.tail_answers.specs.declared.TailRefusal.TheVariants.{BadArea, Damaged, Unstamped}
use Rattle.tail_table.specs.Table.{tails_of, other_words, used_of, unsound, ascending, stands}
use Rattle.tail_table.specs.TailCalls.{found, looked_up, find_of}
use Rattle.tail_table.specs.Sweeping.{room_of, room_for, reach_of, place_of, known, swept, unsound_by, looked_by, find_by}
use Rattle.tail_table.specs.declared.File.{File}
use Rattle.tail_table.specs.declared.Claim.{Claim}
use Rattle.tail_table.specs.declared.Sweep.{Sweep}
use Rattle.tail_sweeps.proofs.Words.{records}
use Rattle.tail_sweeps.proofs.Order.{in_second}
use Rattle.tail_sweeps.proofs.Sweeps.{swept_is}
use Rattle.tail_sweeps.proofs.Placing.{spot_there}

-- what is seen of the used records
abbrev pub seen : List ℕ → ℕ → File → Sweep
seen words used f = swept (take (reach_of (room_of (length words)) used) (tails_of words)) f

fits : (words : List ℕ) (used : ℕ) → ltb (length (tails_of words)) used ≡ false → leb used (length words / 3) ≡ true
fits words used b = let h = records words in let l = ltb-false (length (tails_of words)) used b in le-leb used (length words / 3) (omega (arith, h, l))

pub reach_within : (n used : ℕ) → reach_of (room_of n) used ≤ n / 3
reach_within n used = picked (λ (k : ℕ). k ≤ n / 3) (not (other_words n) and leb used (n / 3)) (λ e. leb-true used (n / 3) (both e).1) (λ e. omega arith)

-- where the count fits all used records are looked at
looks : (words : List ℕ) (used : ℕ) → other_words (length words) ≡ false → ltb (length (tails_of words)) used ≡ false → used ≡ reach_of (room_of (length words)) used
looks words used a b = yes _ (join (ap not a) (fits words used b)) refl

-- the ways of a table: its words are none, its count does not fit, its records are out of order, or all is known of them
pub ways : {P : Type 0} (words : List ℕ) (used : ℕ) (f : File)
    → (other_words (length words) ≡ true → P)
    → (other_words (length words) ≡ false → ltb (length words / 3) used ≡ true → ltb (length (tails_of words)) used ≡ true → P)
    → (other_words (length words) ≡ false → ascending (used_of words used) ≡ false → (seen words used f).ordered ≡ false → P)
    → (other_words (length words) ≡ false → seen words used f ≡ known (used_of words used) f → P)
    → P
ways words used f p q r s =
    test (other_words (length words)) p (λ a.
    test (ltb (length (tails_of words)) used) (λ b. q a (ap (λ (n : ℕ). ltb n used) (sym (records words)) ∙ b) b) (λ b.
    let e = ap (λ (k : ℕ). swept (take k (tails_of words)) f) (looks words used a b) in
    let t = swept_is f (used_of words used) in
    test (ascending (used_of words used)) (λ o. s a (sym e ∙ t.knows o)) (λ o. r a o (ap (λ (x : Sweep). x.ordered) (sym e) ∙ t.orders ∙ o))))

module _ (words : List ℕ) (used : ℕ) (f : File) where
  -- a row of refusals by a sweep s: those of the table, with more in the test of its records, and then the call's own
  abbrev row_of : (Bool → Bool) → (Sweep → List (Bar TailRefusal)) → Sweep → Verdict
  row_of g own s = verdict (BadArea whenever not (room_of (length words)).sized ∷ Damaged whenever g (unsound_by (room_of (length words)) used s) ∷ own s)

  broken : (g : Bool → Bool) (own : Sweep → List (Bar TailRefusal)) (s : Sweep) → g true ≡ true → other_words (length words) ≡ false → s.ordered ≡ false → row_of g own s ≡ Err Damaged
  unfolding pick ◌or◌
  broken g own s t a o = simp (a, o) (true-too (ltb (length words / 3) used))
    where
      true-too : (b : Bool) → pick (g (b || true)) (Err Damaged) (verdict (own s)) ≡ Err Damaged
      true-too true = simp t
      true-too false = simp t

  out_of_order : ascending (used_of words used) ≡ false → unsound words used ≡ true
  unfolding unsound
  out_of_order o = in_second _ (ap not o)

  broken_too : (g : Bool → Bool) (bs : List (Bar TailRefusal)) → g true ≡ true → other_words (length words) ≡ false → ascending (used_of words used) ≡ false → Err Damaged ≡ verdict (BadArea whenever other_words (length words) ∷ Damaged whenever g (unsound words used) ∷ bs)
  broken_too g bs t a o = no _ a (yes _ (ap g (out_of_order o) ∙ t) refl)

  pub row_so : (g : Bool → Bool) (own : Sweep → List (Bar TailRefusal)) → g true ≡ true
      → row_of g own (seen words used f) ≡ verdict (BadArea whenever other_words (length words) ∷ Damaged whenever g (unsound words used) ∷ own (known (used_of words used) f))
  unfolding pick ◌or◌ unsound
  row_so g own t =
      ways words used f
      (λ a. simp a)
      (λ a b c. simp (a, b, c, t))
      (λ a o e. broken g own (seen words used f) t a e ∙ broken_too g (own (known (used_of words used) f)) t a o)
      (λ a e. ap (row_of g own) e ∙ simp (a, sym (records words)))

  -- finding, by a row that refuses or not
  abbrev stampBar : Claim → Sweep → List (Bar TailRefusal)
  stampBar c s = Unstamped whenever not (passes c.record c.domain c.stamp) ∷ []

  pub find_so : (size : ℕ) (c : Claim) → find_by (room_of (length words)) used (seen words used f) size c ≡ find_of words used f size c
  unfolding pick ◌or◌ unsound
  find_so size c =
      ways words used f
      (λ a. simp a)
      (λ a b d. simp (a, b, d))
      (λ a o e.
      ap (λ (v : Verdict). found v (looked_by (seen words used f) size)) (broken (λ (u : Bool). u or not (whole c.record)) (stampBar c) (seen words used f) refl a e)
      ∙ ap (λ (v : Verdict). found v (looked_up (used_of words used) f size)) (broken_too (λ (u : Bool). u or not (whole c.record)) (stampBar c (seen words used f)) refl a o))
      (λ a e. ap (λ (s : Sweep). find_by (room_of (length words)) used s size c) e ∙ simp (a, sym (records words)))

-- a table that is not refused
pub record Sound (words : List ℕ) (used : ℕ) : Type 0 where
  pub threes : length words % 3 ≡ 0
  pub most : length words ≤ 768
  pub within : used ≤ length (tails_of words)
  pub order : ascending (used_of words used) ≡ true
  pub looked : used ≡ reach_of (room_of (length words)) used

pub sound : (words : List ℕ) (used : ℕ) → other_words (length words) ≡ false → unsound words used ≡ false → Sound words used
unfolding other_words unsound
sound words used a u = record {
  threes = eqb-true (length words % 3) 0 (not-false _ (neither a).0);
  most = ltb-false 768 (length words) (neither a).1;
  within = ltb-false (length (tails_of words)) used (neither u).0;
  order = not-false _ (neither u).1;
  looked = looks words used a (neither u).0;
}

-- of which all used records are seen
pub seen_all : {words : List ℕ} {used : ℕ} (f : File) → Sound words used → seen words used f ≡ known (used_of words used) f
seen_all {words} {used} f o = ap (λ (k : ℕ). swept (take k (tails_of words)) f) (sym o.looked) ∙ (swept_is f (used_of words used)).knows o.order

-- and the place that a sweep s has found is the pair's, where it stands there
pub place_so : {words : List ℕ} {used : ℕ} {s : Sweep} {f g : File} → Sound words used → f ≡ g → s ≡ seen words used f → stands (used_of words used) g ≡ true → s.place ≡ place_of (used_of words used) g
place_so {words} {used} {g = g} o q r h = ap (λ (x : Sweep). x.place) (r ∙ ap (seen words used) q ∙ seen_all g o) ∙ spot_there g (used_of words used) o.order h

pub used_long : {words : List ℕ} {used : ℕ} → Sound words used → length (used_of words used) ≡ used
used_long {words} {used} o = length-take-le used (tails_of words) o.within

-- n records have the room of their words
in_threes : (n : ℕ) → eqb (n * 3 % 3) 0 ≡ true
in_threes n = eq-eqb (n * 3 % 3) 0 (omega arith)

sizes : (n : ℕ) → leb n 256 ≡ not (other_words (n * 3))
unfolding other_words ◌or◌
sizes n =
    test (leb n 256)
    (λ e. let l = leb-true n 256 e in let m = le-ltb 768 (n * 3) (omega (arith, l)) in simp (e, in_threes n, m))
    (λ e. let l = leb-false n 256 e in let m = lt-ltb 768 (n * 3) (omega (arith, l)) in simp (e, in_threes n, m))

thirds : (n : ℕ) → n ≡ n * 3 / 3
thirds n = omega arith

pub same_room : (n : ℕ) → room_for n ≡ room_of (n * 3)
same_room n = λ j. record { sized = sizes n j; records = thirds n j }
