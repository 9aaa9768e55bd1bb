-- A table whose first records are written anew: it is sound, and its used records are those. Assumes nothing.
use Prim.Native.Nat.{ℕ, ◌≤◌}
use mathlib.Core.Path.{◌≡◌, refl, ◌∙◌, ap}
use mathlib.Core.Bool.{Bool, true, false, not}
use mathlib.Core.List.{List, [], ◌∷◌, ◌++◌}
use native.Mathlib.Omega.{arith}
use lib.ListN.{length, take, drop, length-append, length-drop}
use lib.Seq.{take-append-le}
use borrow.Author.Tests.{le-ltb}
use Rattle.choice.specs.Pick.{pick, ◌or◌}
use Rattle.wholeness.specs.Whole.{whole}
use Rattle.step_stamps.specs.Stamping.{passes}
use Rattle.std.specs.Prelude.{Ok, Err}
use Rattle.bars.specs.Bars.{◌whenever◌, verdict}
use Rattle.tail_answers.specs.TailAnswers.{Verdict}
use Rattle.tail_answers.specs.declared.TailRefusal.TheVariants.{Damaged, Unstamped}
use Rattle.tail_table.specs.Table.{tails_of, other_words, used_of, unsound, ascending, over_first}
use Rattle.tail_table.specs.TailCalls.{table_left, settled, found, looked_up, find_of}
use Rattle.tail_table.specs.declared.Tail.{Tail}
use Rattle.tail_table.specs.declared.File.{File}
use Rattle.tail_table.specs.declared.Claim.{Claim}
use Rattle.tail_sweeps.proofs.Words.{tails_back, words_long, records}
use Rattle.tail_sweeps.proofs.Deciding.{sound}
use Rattle.tail_laws.specs.TailChains.{TailTable, keeps, Sound}

abbrev pub table_of : List ℕ → ℕ → TailTable
table_of words used = record { words = words; used = used }

-- a table that is sound, and its used records
pub record Leaves (words : List ℕ) (used : ℕ) (us : List Tail) : Type 0 where
  pub table : Sound (table_of words used)
  pub holds : used_of words used ≡ us

-- two tests that fail
fails : {a b : Bool} → a ≡ false → b ≡ false → a or b ≡ false
unfolding ◌or◌
fails p q = simp (p, q)

module _ (words : List ℕ) (used : ℕ) (o : Sound (table_of words used)) (us : List Tail) (l : length us ≤ length (tails_of words)) where
  tails : tails_of (over_first us words) ≡ us ++ drop (length us) (tails_of words)
  tails = tails_back (us ++ drop (length us) (tails_of words))

  many : length (us ++ drop (length us) (tails_of words)) ≡ length (tails_of words)
  many = let n = length-append us (drop (length us) (tails_of words)) in let d = length-drop (length us) (tails_of words) in omega (arith, n, d, l)

  long : length (over_first us words) ≡ length words
  long =
      let w = words_long (us ++ drop (length us) (tails_of words)) in
      let m = many in
      let r = records words in
      let t = (sound words used o.0 o.1).threes in
      omega (arith, w, m, r, t)

  -- of which the first n are in use
  pub leaves : (n : ℕ) → n ≤ length us → ascending (take n us) ≡ true → Leaves (over_first us words) n (take n us)
  unfolding unsound
  leaves n k a =
      let u = ap (take n) tails ∙ take-append-le n us (drop (length us) (tails_of words)) k in
      let m = many in
      let t = ap length tails in
      record {
        table = (ap other_words long ∙ o.0, fails (le-ltb (length (tails_of (over_first us words))) n (omega (arith, m, t, k, l))) (ap not (ap ascending u ∙ a)));
        holds = u;
      }

-- what is said of both a table that stays and one that a call leaves, is said of what it leaves
pub either_way : (P : TailTable → Type 0) (v : Verdict) (words : List ℕ) (used : ℕ) (words' : List ℕ) (used' : ℕ)
    → P (table_of words used) → (v ≡ Ok tt → P (table_of words' used')) → P (keeps (settled v used words used' words'))
either_way P (Ok u) words used words' used' p q = q refl
either_way P (Err why) words used words' used' p q = p

-- a call that was done had a row without a refusal, and leaves what it is to leave
pub was_done : (v : Verdict) (words : List ℕ) (used : ℕ) (words' : List ℕ) (used' : ℕ) → (settled v used words used' words').answer ≡ Ok tt → (v ≡ Ok tt) × (settled v used words used' words' ≡ table_left (Ok tt) used' words')
was_done (Ok u) words used words' used' h = (refl, refl)
was_done (Err why) words used words' used' h = (h, ap (λ (x : Verdict). settled x used words used' words') h)

-- finding in a sound table is refused by its claim alone
abbrev pub claimed : Claim → Verdict
claimed c = verdict (Damaged whenever not (whole c.record) ∷ Unstamped whenever not (passes c.record c.domain c.stamp) ∷ [])

pub find_in : {words : List ℕ} {used : ℕ} {us : List Tail} → Leaves words used us → (f : File) (size : ℕ) (c : Claim) → find_of words used f size c ≡ found (claimed c) (looked_up us f size)
unfolding pick ◌or◌
find_in {words} {used} {us} v f size c = simp (v.table.0, v.table.1) (ap (λ (x : List Tail). found (claimed c) (looked_up x f size)) v.holds)

-- an empty table is sound, whatever its words hold: a chain can start there
pub empty_sound : (words : List ℕ) → other_words (length words) ≡ false → Sound (table_of words 0)
unfolding unsound
empty_sound words h = (h, fails (le-ltb (length (tails_of words)) 0 (omega arith)) refl)
