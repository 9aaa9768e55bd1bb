-- What a call leaves, by a verdict v that is the definition's d: refused, as it was; done, what is written. Assumes nothing.
use Prim.Native.Nat.{ℕ}
use mathlib.Core.Path.{◌≡◌, sym, ◌∙◌, ap}
use mathlib.Core.List.{List}
use Rattle.std.specs.Prelude.{Ok, Err}
use Rattle.tail_answers.specs.TailAnswers.{Verdict}
use Rattle.tail_answers.specs.declared.TailRefusal.{TailRefusal}
use Rattle.tail_table.specs.TailCalls.{table_left, settled}

pub refused_so : {v : Verdict} (d : Verdict) (why : TailRefusal) (used : ℕ) (words : List ℕ) (used' : ℕ) (words' : List ℕ) → v ≡ d → v ≡ Err why → table_left (Err why) used words ≡ settled d used words used' words'
refused_so d why used words used' words' e h = ap (λ (x : Verdict). settled x used words used' words') (sym h ∙ e)

pub done_so : {v : Verdict} (d : Verdict) (used : ℕ) (words : List ℕ) (used' : ℕ) (words' : List ℕ) {w : List ℕ} → v ≡ d → v ≡ Ok tt → w ≡ words' → table_left (Ok tt) used' w ≡ settled d used words used' words'
done_so d used words used' words' e h p = ap (table_left (Ok tt) used') p ∙ ap (λ (x : Verdict). settled x used words used' words') (sym h ∙ e)
