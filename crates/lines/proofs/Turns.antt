-- One turn of the loop that puts numbers, its end, and a whole line. Assumes nothing.
use mathlib.Core.Path.{◌≡◌, sym, ap, ◌∙◌}
use mathlib.Core.Bool.{Bool, true, not}
use mathlib.Core.List.{List, [], ◌∷◌}
use Prim.Native.Nat.{ℕ, ◌+◌, ◌≤◌, ◌<◌}
use native.Mathlib.Numerals.{add-one}
use lib.Dec.{eqb}
use lib.ListN.{length, drop, get_or}
use lib.Seq.{drop-cons}
use Rattle.std.proofs.lemmas.List.{drop_all}
use Rattle.text.specs.declared.Page.{Page}
use Rattle.text.specs.Writing.{newline_byte, put_byte, put_all, decimal_of}
use Rattle.text.proofs.Putting.{put_both}
use Rattle.lines.specs.Lines.{space_if, numbers_text, line_text}

module _ (p : Page) (due : Bool) (numbers : List ℕ) (i : ℕ) where
  pub number_next : {q r : Page} → i < length numbers → q ≡ put_all p (space_if due) → r ≡ put_all q (decimal_of (get_or numbers i 0))
      → put_all r (numbers_text true (drop (i + 1) numbers)) ≡ put_all p (numbers_text due (drop i numbers))
  unfolding numbers_text
  number_next h e f =
      rw (f, e, add-one i) (sym (put_both (put_all p (space_if due)) (decimal_of (get_or numbers i 0)) _)
      ∙ sym (put_both p (space_if due) _)
      ∙ ap (λ (l : List ℕ). put_all p (numbers_text due l)) (sym (drop-cons numbers i 0 h)))

  pub number_end : length numbers ≤ i → put_all p (numbers_text due (drop i numbers)) ≡ p
  unfolding numbers_text put_all
  number_end h = ap (λ (l : List ℕ). put_all p (numbers_text due l)) (drop_all i numbers h)

-- a whole line: the word, the numbers and the newline
pub line : (p : Page) (word numbers : List ℕ) {q r s : Page} → q ≡ put_all p word
    → r ≡ put_all q (numbers_text (not (eqb (length word) 0)) numbers)
    → s ≡ put_byte r newline_byte → s ≡ put_all p (line_text word numbers)
unfolding put_all line_text
line p word numbers e f g =
    rw (g, f, e) (sym (put_both (put_all p word) (numbers_text (not (eqb (length word) 0)) numbers) (newline_byte ∷ [])) ∙ sym (put_both p word _))
