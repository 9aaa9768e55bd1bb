-- The promises of the calls on a tail table determine what they answer and leave. Assumes nothing.
use Prim.Native.Nat.{ℕ}
use mathlib.Core.Path.{◌≡◌, refl, sym, ◌∙◌, ap}
use mathlib.Core.List.{List}
use Rattle.std.specs.Prelude.{Result, Ok, Err}
use Rattle.tail_answers.specs.TailAnswers.{Verdict}
use Rattle.tail_answers.specs.declared.TailRefusal.{TailRefusal}
use Rattle.tail_table.specs.Table.{tails_of, words_of}
use Rattle.tail_table.specs.TailCalls.{TableLeft, table_left, counted}
use Rattle.tail_table.specs.declared.Tail.{Tail}
use Rattle.tail_sweeps.proofs.Words.{tails_back}

-- two results that meet the promise of one input are one
pub one_table : (d : TableLeft) (v w : Verdict) (m n : ℕ) (l k : List ℕ) → table_left v m l ≡ d → table_left w n k ≡ d → (v ≡ w) × ((m ≡ n) × (l ≡ k))
one_table d v w m n l k p q =
    let e = p ∙ sym q in
    (ap (λ (x : TableLeft). x.answer) e, (ap (λ (x : TableLeft). x.used) e, ap (λ (x : TableLeft). x.words) e))

-- and so where the count is the answer
pub one_counted : (d : TableLeft) (r s : Result ℕ TailRefusal) (used : ℕ) (l k : List ℕ) → counted r used l ≡ d → counted s used k ≡ d → (r ≡ s) × (l ≡ k)
one_counted d r s used l k p q = (sym (count_back r used l) ∙ ap answered (p ∙ sym q) ∙ count_back s used k, sym (words_back r used l) ∙ ap (λ (x : TableLeft). x.words) (p ∙ sym q) ∙ words_back s used k)
  where
    count_at : Verdict → ℕ → Result ℕ TailRefusal
    count_at (Ok u) count = Ok count
    count_at (Err why) count = Err why

    answered : TableLeft → Result ℕ TailRefusal
    answered x = count_at x.answer x.used

    count_back : (r : Result ℕ TailRefusal) (used : ℕ) (l : List ℕ) → answered (counted r used l) ≡ r
    count_back (Ok count) used l = refl
    count_back (Err why) used l = refl

    words_back : (r : Result ℕ TailRefusal) (used : ℕ) (l : List ℕ) → (counted r used l).words ≡ l
    words_back (Ok count) used l = refl
    words_back (Err why) used l = refl

-- and so where the words are those of structs
pub one_structs : (d : TableLeft) (v w : Verdict) (used : ℕ) (ts us : List Tail) → table_left v used (words_of ts) ≡ d → table_left w used (words_of us) ≡ d → (v ≡ w) × (ts ≡ us)
one_structs d v w used ts us p q =
    let e = one_table d v w used used (words_of ts) (words_of us) p q in
    (e.0, sym (tails_back ts) ∙ ap tails_of e.1.1 ∙ tails_back us)
