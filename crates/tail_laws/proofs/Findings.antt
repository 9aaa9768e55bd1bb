-- What is found: a pair exactly if it stands in the table; and after a call that was done, what it changed, and every other pair as
-- before. Assumes nothing.
use Prim.Native.Nat.{ℕ, zero, suc, ◌<◌, ◌≤◌}
use native.Mathlib.Nat.{le_of_suc-le-suc, not-suc-le-zero}
use mathlib.Core.Path.{◌≡◌, refl, sym, ◌∙◌, ap, subst}
use mathlib.Core.Bool.{Bool, true, false, not}
use mathlib.Core.List.{List, [], ◌∷◌}
use native.Mathlib.Omega.{arith}
use lib.Dec.{ltb}
use lib.ListN.{length, get_or}
use borrow.Author.Tests.{le-ltb}
use Rattle.std.specs.Prelude.{Result, Ok, Err}
use Rattle.choice.specs.Pick.{pick}
use Rattle.choice.proofs.Tests.{either, never}
use Rattle.wholeness.specs.Whole.{whole}
use Rattle.step_stamps.specs.Stamping.{passes}
use Rattle.tail_answers.specs.declared.TailRefusal.TheVariants.{Unstamped}
use Rattle.tail_answers.specs.declared.TailRefusal.{TailRefusal}
use Rattle.tail_answers.specs.declared.Finding.{Finding}
use Rattle.tail_answers.specs.declared.Finding.TheVariants as F
use Rattle.tail_table.specs.Table.{file_of, same, stands, saved_of, zeroes}
use Rattle.tail_table.specs.TailCalls.{found, looked_up, find_of}
use Rattle.tail_table.specs.declared.Tail.{Tail}
use Rattle.tail_table.specs.declared.File.{File}
use Rattle.tail_table.specs.declared.Claim.{Claim}
use Rattle.tail_sweeps.proofs.Order.{in_first, in_second, same_one, same_itself}
use Rattle.tail_laws.specs.TailChains.{Holds}
use Rattle.tail_laws.proofs.Tables.{Leaves, claimed, find_in}

-- a pair stands among records exactly if one of them is its
pub stands_at : (us : List Tail) (f : File) → stands us f ≡ true → (i : ℕ) × ((i < length us) × (file_of (get_or us i zeroes) ≡ f))
stands_at [] f s = never (sym s)
stands_at (u ∷ us) f s =
    either s
    (λ e. (0, (omega arith, same_one (file_of u) f e)))
    (λ e. let (i, (l, p)) = stands_at us f e in (suc i, (omega (arith, l), p)))

pub at_stands : (us : List Tail) (f : File) (i : ℕ) → i < length us → file_of (get_or us i zeroes) ≡ f → stands us f ≡ true
at_stands [] f i l e = absurd (not-suc-le-zero l)
at_stands (u ∷ us) f zero l e = in_first _ (subst (λ (x : File). same (file_of u) x ≡ true) e (same_itself (file_of u)))
at_stands (u ∷ us) f (suc i) l e = in_second _ (at_stands us f i (le_of_suc-le-suc l) e)

-- under a claim that holds, finding is looking up
looks_up : {words : List ℕ} {used : ℕ} {us : List Tail} → Leaves words used us → (f : File) (size : ℕ) (c : Claim) → Holds c → find_of words used f size c ≡ Ok (looked_up us f size)
unfolding pick
looks_up v f size c h = find_in v f size c ∙ simp (h.0, h.1)

-- findings told apart by a number
kind : Result Finding TailRefusal → ℕ
kind (Ok (F.Same offset)) = 0
kind (Ok F.Shrunk) = 1
kind (Ok F.Unknown) = 2
kind (Err why) = 3

known_then : (s b : Bool) (offset : ℕ) → kind (Ok (pick (not s) F.Unknown (pick b F.Shrunk (F.Same offset)))) ≡ 2 → s ≡ false
unfolding pick kind
known_then true true offset e = absurd (omega arith)
known_then true false offset e = absurd (omega arith)
known_then false b offset e = refl

module _ {words : List ℕ} {used : ℕ} {us : List Tail} (v : Leaves words used us) (f : File) (size : ℕ) (c : Claim) where
  -- a pair is Unknown exactly if it does not stand in the table
  pub unknown_where_absent : Holds c → stands us f ≡ false → find_of words used f size c ≡ Ok F.Unknown
  unfolding pick
  unknown_where_absent h s = looks_up v f size c h ∙ simp s

  pub absent_where_unknown : Holds c → find_of words used f size c ≡ Ok F.Unknown → stands us f ≡ false
  unfolding kind
  absent_where_unknown h e = known_then (stands us f) (ltb size (saved_of us f)) (saved_of us f) (ap kind (sym (looks_up v f size c h) ∙ e))

  -- one that stands there is the Same with its offset, where the size is not below it
  pub same_where_saved : Holds c → stands us f ≡ true → (offset : ℕ) → saved_of us f ≡ offset → offset ≤ size → find_of words used f size c ≡ Ok (F.Same offset)
  unfolding pick
  same_where_saved h s offset e l = looks_up v f size c h ∙ simp (s, e, le-ltb size offset l)

  -- under a stamp that does not pass nothing is found: 35
  pub unfound_unstamped : whole c.record ≡ true → passes c.record c.domain c.stamp ≡ false → find_of words used f size c ≡ Err Unstamped
  unfolding pick
  unfound_unstamped w p = find_in v f size c ∙ simp (w, p)

  -- and what is found stays, for any claim, where neither the pair nor its offset changed
  pub still_found : {words' : List ℕ} {used' : ℕ} {us' : List Tail} → Leaves words' used' us' → stands us' f ≡ stands us f → saved_of us' f ≡ saved_of us f → find_of words' used' f size c ≡ find_of words used f size c
  still_found v' p q =
      find_in v' f size c
      ∙ ap (found (claimed c)) (λ j. pick (not (p j)) F.Unknown (pick (ltb size (q j)) F.Shrunk (F.Same (q j))))
      ∙ sym (find_in v f size c)
