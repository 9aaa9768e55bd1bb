-- Looking for the next newline, and one turn of looking for the first template that fits. Assumes nothing.
use Rattle.std.proofs.Common.{◌≡◌, ℕ, suc, ◌+◌, ◌≤◌, ◌<◌, true, false, List, [], ◌∷◌, Some, None, Ok, Err, ◌==◌, position, refl, sym, ◌∙◌, eqb, ltb, length, drop, add-one, arith}
use Rattle.std.specs.List.{position_or_len}
use borrow.Author.Tests.{ltb-true, ltb-false}
use Rattle.choice.specs.Pick.{pick}
use Rattle.choice.proofs.Tests.{test}
use Rattle.std.proofs.lemmas.List.{drop_all}
use Rattle.matching.specs.Templates.{fits_at}
use Rattle.templates.specs.Finding.{after_line, found, first_from}

-- what is left after the next newline starts after its place
after : (l : List ℕ) → drop (suc (position_or_len (λ b. b == 10) l)) l ≡ after_line l
unfolding after_line pick
after [] = refl
after (x ∷ l) =
    let more : 1 + position_or_len (λ b. b == 10) l ≡ suc (position_or_len (λ b. b == 10) l) = omega arith in
    test (eqb x 10) (λ e. simp e) (λ e. simp (e, more) (after l))

pub after_some : (l : List ℕ) (end : ℕ) → Some end ≡ position (λ b. b == 10) l → (end < length l) × (drop (end + 1) l ≡ after_line l)
after_some l end h =
    test (ltb (position_or_len (λ b. b == 10) l) (length l))
    (λ e. let g = rw e at h in let s : end ≡ position_or_len (λ b. b == 10) l = cc in let t = ltb-true _ _ e in (omega arith, rw (s, add-one) (after l)))
    (λ e. let g = rw e at h in (cc, cc))

pub after_none : (l : List ℕ) → None ≡ position (λ b. b == 10) l → [] ≡ after_line l
after_none l h =
    test (ltb (position_or_len (λ b. b == 10) l) (length l))
    (λ e. let g = rw e at h in cc)
    (λ e.
    let t = ltb-false _ _ e in
    let past : length l ≤ suc (position_or_len (λ b. b == 10) l) = omega arith in
    sym (drop_all _ l past) ∙ after l)

-- a template that does not fit is passed over
passed : (line l : List ℕ) → first_from line false (after_line l) ≡ first_from line true l
unfolding first_from after_line pick
passed line [] = refl
passed line (byte ∷ l) =
    test (eqb byte 10) (λ e. rw e) (λ e. rw e (passed line l))

module _ (line rest : List ℕ) (key : ℕ) (template : List ℕ) (at : rest ≡ key ∷ template) where
  pub first-some : {row : List ℕ} → Ok row ≡ fits_at line template → Some (found key row) ≡ first_from line false rest
  unfolding first_from
  first-some e = rw (at, ← e)

  pub first-none : {row : List ℕ} → Err row ≡ fits_at line template → first_from line false (after_line template) ≡ first_from line false rest
  unfolding first_from
  first-none e = rw (at, ← e) (passed line template)

pub first_end : (line rest : List ℕ) → length rest ≡ 0 → None ≡ first_from line false rest
unfolding first_from
first_end line [] h = refl
first_end line (x ∷ rest) h = absurd (omega arith)
