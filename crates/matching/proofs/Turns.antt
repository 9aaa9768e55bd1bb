-- One turn of fitting a line to a template, by what the line has at its place, and its end. Assumes nothing.
use Rattle.std.proofs.Common.{◌≡◌, ℕ, ◌+◌, ◌≤◌, ◌<◌, List, Some, None, Bool, true, false, ◌==◌, position, refl, sym, ap, ◌∙◌, eqb, ltb, length, drop, get_or, add-one, arith, drop-cons}
use Rattle.std.specs.Bool.{then_some}
use Rattle.std.specs.Char.{is_ascii_uppercase}
use Rattle.std.specs.List.{position_or_len}
use Rattle.std.specs.Option.{ok_or}
use Rattle.std.proofs.lemmas.List.Recursion.{is_position_or_len}
use mathlib.Core.Logic.{◌≢◌}
use borrow.Author.Tests.{eq-eqb, ne_eqb, le-leb, lt-leb}
use Rattle.choice.specs.Pick.{pick, ◌and◌}
use Rattle.choice.proofs.Picks.{yes, no}
use Rattle.choice.proofs.Tests.{test}
use Rattle.std.proofs.lemmas.List.{drop_all}
use Rattle.numbers.specs.Reading.{number_at}
use Rattle.text.specs.Writing.{newline_byte}
use Rattle.matching.specs.declared.Taken.{Taken}
use Rattle.matching.specs.declared.Numbers.{Numbers}
use Rattle.matching.specs.Templates.{most_at, letters, place_in, a_number, letter_of, taken_of, same_as, taken_at, kept_of, fitted, fits_from}

-- the place of a byte is the first at which it stands
placed : (byte : ℕ) (l : List ℕ) → place_in l byte ≡ position_or_len (λ x. byte == x) l
unfolding place_in pick
placed byte l =
    is_position_or_len (λ r. place_in r byte) (λ x. byte == x) refl
    (λ x r. test (eqb byte x) (λ e. simp e) (λ e. simp e (omega arith))) l

pub letter_none : (byte next : ℕ) → None ≡ position (λ x. byte == x) letters → None ≡ letter_of byte next
unfolding letter_of pick
letter_none byte next h =
    rw (placed byte letters)
    (test (ltb (position_or_len (λ x. byte == x) letters) 9) (λ e. let g = rw e at h in cc) (λ e. rw e))

pub letter_some : (byte next place : ℕ) → Some place ≡ position (λ x. byte == x) letters → a_number place next ≡ letter_of byte next
unfolding letter_of pick
letter_some byte next place h =
    rw (placed byte letters)
    (test (ltb (position_or_len (λ x. byte == x) letters) 9) (λ e. let g = rw e at h in rw e cc) (λ e. let g = rw e at h in cc))

module _ (line : List ℕ) (at mark : ℕ) where
  pub take_end : length line ≤ at → None ≡ taken_at line at mark
  unfolding taken_at
  take_end h = yes _ (le-leb _ _ h) refl

  module _ (h : at < length line) where
    pub take_letter : mark ≡ 66 → letter_of (get_or line at 0) (at + 1) ≡ taken_at line at mark
    unfolding taken_at
    take_letter e = no _ (lt-leb _ _ h) (yes _ (eq-eqb _ _ e) refl)

    pub take-number : {r : Bool} → mark ≢ 66 → r ≡ is_ascii_uppercase mark → r ≡ true
        → taken_of (number_at line at (most_at mark)) ≡ taken_at line at mark
    unfolding taken_at ◌and◌
    take-number e capital holds = no _ (lt-leb _ _ h) (no _ (ne_eqb _ _ e) (yes _ (sym capital ∙ holds) refl))

    pub take-same : {r : Bool} → mark ≢ 66 → r ≡ is_ascii_uppercase mark → r ≡ false → same_as (get_or line at 0) mark (at + 1) ≡ taken_at line at mark
    unfolding taken_at ◌and◌
    take-same e capital other = no _ (lt-leb _ _ h) (no _ (ne_eqb _ _ e) (no _ (sym capital ∙ other) refl))

-- the numbers, by whether the line fits
pub ends : (fits : Bool) (row : List ℕ) → ok_or (then_some fits row) row ≡ fitted fits row
ends true row = refl
ends false row = refl

module _ (line template : List ℕ) (n : Numbers) (at i : ℕ) where
  pub fit_end : length template ≤ i → fits_from line n at (drop i template) ≡ fitted false n.row
  unfolding fits_from
  fit_end h = ap (fits_from line n at) (drop_all i template h)

  module _ (h : i < length template) where
    pub fit-newline : get_or template i 0 ≡ newline_byte → fits_from line n at (drop i template) ≡ fitted (eqb at (length line)) n.row
    unfolding fits_from
    fit-newline e = ap (fits_from line n at) (drop-cons template i 0 h) ∙ sym (yes _ (eq-eqb _ _ e) refl)

    module _ (other : get_or template i 0 ≢ newline_byte) where
      pub fit-wrong : taken_at line at (get_or template i 0) ≡ None → fits_from line n at (drop i template) ≡ fitted false n.row
      unfolding fits_from
      fit-wrong e = ap (fits_from line n at) (drop-cons template i 0 h) ∙ sym (no _ (ne_eqb _ _ other) (rw e))

      pub fit-some : {taken : Taken} → Some taken ≡ taken_at line at (get_or template i 0)
          → fits_from line (kept_of n taken.number) taken.next (drop (i + 1) template) ≡ fits_from line n at (drop i template)
      unfolding fits_from
      fit-some e =
          no _ (ne_eqb _ _ other) (rw (add-one i, ← e)) ∙ ap (fits_from line n at) (sym (drop-cons template i 0 h))
