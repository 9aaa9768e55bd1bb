-- The order of pairs, by device and then by inode, and what it says of a pair that stands among records in order. Assumes nothing.
use Prim.Native.Nat.{◌<◌}
use mathlib.Core.Path.{◌≡◌, refl, sym, ◌∙◌, subst}
use mathlib.Core.Bool.{Bool, true, false}
use mathlib.Core.List.{List, [], ◌∷◌}
use native.Mathlib.Omega.{arith}
use lib.Dec.{ltb}
use borrow.Author.Tests.{ltb-true, eqb-true, eq-eqb, lt-ltb}
use Rattle.choice.specs.Pick.{◌and◌, ◌or◌}
use Rattle.choice.proofs.Tests.{both, either, neither, join, test, never, tests}
use Rattle.tail_table.specs.Table.{file_of, same, before, ascending, stands}
use Rattle.tail_table.specs.declared.Tail.{Tail}
use Rattle.tail_table.specs.declared.File.{File}

-- a test of two, by its first or its second part
pub in_first : {a : Bool} (b : Bool) → a ≡ true → a or b ≡ true
unfolding ◌or◌
in_first b p = simp p

pub in_second : (a : Bool) {b : Bool} → b ≡ true → a or b ≡ true
unfolding ◌or◌
in_second true p = refl
in_second false p = p

-- the two ways in which a pair stands before another
by_device : (a b : File) → a.device < b.device → before a b ≡ true
unfolding before
by_device a b l = in_first _ (lt-ltb a.device b.device l)

by_inode : (a b : File) → a.device ≡ b.device → a.inode < b.inode → before a b ≡ true
unfolding before
by_inode a b e l = in_second _ (join (eq-eqb a.device b.device e) (lt-ltb a.inode b.inode l))

pub stands_before : {P : Type 0} (a b : File) → before a b ≡ true → (a.device < b.device → P) → (a.device ≡ b.device → a.inode < b.inode → P) → P
unfolding before
stands_before a b h f g = either h (λ d. f (ltb-true a.device b.device d)) (λ e. g (eqb-true a.device b.device (both e).0) (ltb-true a.inode b.inode (both e).1))

pub on_and_on : (a b c : File) → before a b ≡ true → before b c ≡ true → before a c ≡ true
on_and_on a b c h k =
    stands_before a b h
    (λ l. stands_before b c k (λ m. by_device a c (omega (arith, l, m))) (λ e m. by_device a c (omega (arith, l, e))))
    (λ d l. stands_before b c k (λ m. by_device a c (omega (arith, d, m))) (λ e m. by_inode a c (d ∙ e) (omega (arith, l, m))))

pub never_itself : (a : File) → before a a ≡ false
never_itself a = test (before a a) (λ h. stands_before a a h (λ l. absurd (omega (arith, l))) (λ d l. absurd (omega (arith, l)))) (λ e. e)

-- pairs that are the same are one
pub same_one : (a b : File) → same a b ≡ true → a ≡ b
unfolding same
same_one a b h = λ j. record { device = eqb-true a.device b.device (both h).0 j; inode = eqb-true a.inode b.inode (both h).1 j }

pub same_itself : (a : File) → same a a ≡ true
unfolding same
same_itself a = join (eq-eqb a.device a.device refl) (eq-eqb a.inode a.inode refl)

-- one that stands before a pair is another, and the same one does not stand before it
pub same_not_before : (a b : File) → same a b ≡ true → before a b ≡ false
same_not_before a b h = subst (λ (c : File). before a c ≡ false) (same_one a b h) (never_itself a)

pub before_not_same : (a b : File) → before a b ≡ true → same a b ≡ false
before_not_same a b h = test (same a b) (λ e. never (sym h ∙ same_not_before a b e)) (λ e. e)

-- a test of two that fails, though its first part holds
rest_fails : {a b : Bool} → a and b ≡ false → a ≡ true → b ≡ false
unfolding ◌and◌
rest_fails {a = true} h p = h
rest_fails {a = false} h p = never (sym p)

-- of two pairs that are not the same, one stands before the other
pub one_or_other : (a b : File) → before a b ≡ false → same a b ≡ false → before b a ≡ true
unfolding before same
one_or_other a b h s =
    test (ltb b.device a.device)
    (λ l. in_first _ l)
    (λ l.
    let d : b.device ≡ a.device = omega (tests, (neither h).0, l) in
    let e = eq-eqb a.device b.device (sym d) in
    let i = rest_fails (neither h).1 e in
    let j = rest_fails s e in
    in_second _ (join (eq-eqb b.device a.device d) (lt-ltb b.inode a.inode (omega (tests, i, j)))))

-- in order, the first stands before every pair that stands among the rest
pub first_before : (u : Tail) (us : List Tail) (f : File) → ascending (u ∷ us) ≡ true → stands us f ≡ true → before (file_of u) f ≡ true
first_before u [] f a s = never (sym s)
first_before u (v ∷ vs) f a s =
    either s
    (λ e. subst (λ (c : File). before (file_of u) c ≡ true) (same_one (file_of v) f e) (both a).0)
    (λ e. on_and_on (file_of u) (file_of v) f (both a).0 (first_before v vs f (both a).1 e))
