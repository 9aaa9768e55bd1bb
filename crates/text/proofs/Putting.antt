-- Bytes that are put one after the other: two texts and five, one turn of a loop over a text, and its end. Assumes nothing.
use mathlib.Core.Path.{◌≡◌, refl, sym, ap, ◌∙◌}
use mathlib.Core.List.{List, [], ◌∷◌, ◌++◌}
use Prim.Native.Nat.{ℕ, ◌+◌, ◌≤◌, ◌<◌}
use native.Mathlib.Numerals.{add-one}
use base.Fml.{GName}
use mathlib.Core.Bool.{Bool, true, false}
use lib.Dec.{ltb}
use lib.ListN.{length, drop, get_or}
use Rattle.choice.specs.Pick.{pick}
use Rattle.choice.proofs.Picks.{each}
use lib.Seq.{drop-cons}
use Rattle.std.proofs.lemmas.List.{drop_all}
use Rattle.text.specs.declared.Page.{Page}
use Rattle.text.specs.Writing.{page, put_byte, put_all}

pub put_both : (p : Page) (s t : List ℕ) → put_all p (s ++ t) ≡ put_all (put_all p s) t
unfolding put_all
put_both p [] t = refl
put_both p (byte ∷ s) t = put_both (put_byte p byte) s t

-- five texts that are put in turn
pub put_five : (p : Page) (s t u v w : List ℕ) {a b c d e : Page} → a ≡ put_all p s → b ≡ put_all a t → c ≡ put_all b u → d ≡ put_all c v
    → e ≡ put_all d w → e ≡ put_all p (s ++ (t ++ (u ++ (v ++ w))))
put_five p s t u v w f g h i j =
    rw (j, i, h, g, f)
    (sym (put_both (put_all (put_all (put_all p s) t) u) v w) ∙ sym (put_both (put_all (put_all p s) t) u _) ∙ sym (put_both (put_all p s) t _)
    ∙ sym (put_both p s _))

module _ (p : Page) (text : List ℕ) (i : ℕ) where
  pub put_next : {q : Page} → i < length text → q ≡ put_byte p (get_or text i 0) → put_all q (drop (i + 1) text) ≡ put_all p (drop i text)
  unfolding put_all
  put_next h e = rw (e, add-one i) (ap (put_all p) (sym (drop-cons text i 0 h)))

  pub put_end : length text ≤ i → put_all p (drop i text) ≡ p
  unfolding put_all
  put_end h = ap (put_all p) (drop_all i text h)

-- for whoever lends the bytes: a page stays the same loan, and what is put does not go by the loan's name
abbrev pub under : GName → Page → Page
under name p = page (record p.bytes { ghost_name = name }) p.written

pub same_loan : (p : Page) (text : List ℕ) → (put_all p text).bytes.ghost_name ≡ p.bytes.ghost_name
unfolding put_all put_byte
same_loan p [] = refl
same_loan p (byte ∷ text) =
    same_loan (put_byte p byte) text ∙ each (λ (q : Page). q.bytes.ghost_name ≡ p.bytes.ghost_name) (ltb p.written (length p.bytes.now)) refl refl

under_pick : (name : GName) (b : Bool) (p q : Page) → pick b (under name p) (under name q) ≡ under name (pick b p q)
unfolding pick
under_pick name true p q = refl
under_pick name false p q = refl

pub any_loan : (name : GName) (p : Page) (text : List ℕ) → put_all (under name p) text ≡ under name (put_all p text)
unfolding put_all put_byte
any_loan name p [] = refl
any_loan name p (byte ∷ text) =
    ap (λ (q : Page). put_all q text) (under_pick name (ltb p.written (length p.bytes.now)) _ _) ∙ any_loan name (put_byte p byte) text

-- a promise of the form page ≡ d says all bytes that are lent, and how many are in use
pub one_page : (d : Page) {p q : Page} → p ≡ d → q ≡ d → (p.bytes.now ≡ q.bytes.now) × (p.written ≡ q.written)
one_page d e f = (ap (λ (x : Page). x.bytes.now) (e ∙ sym f), ap (λ (x : Page). x.written) (e ∙ sym f))
