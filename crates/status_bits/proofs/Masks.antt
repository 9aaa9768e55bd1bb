-- One bit of a byte, by a mask: what `&` and `|` make of it, at each of the 256 bytes. Assumes nothing.
use Rattle.std.proofs.Common.{ℕ, ◌+◌, ◌/◌, ◌%◌, ◌<◌, ⊎_elim, true, not, eqb, bit_and, bit_or, ◌≡◌, refl, sym, subst}
use borrow.Author.Tests.{eqb-true}
use Rattle.std.proofs.lemmas.Bool.{agree_below_at, or_cases}
use Rattle.choice.specs.Pick.{pick}
use Rattle.status_bits.specs.Bits.{IsBit, has, with}

-- what holds of each bit holds of one of them
each_bit : (P : ℕ → Type 0) (bit : ℕ) → P 1 → P 2 → P 4 → P 8 → IsBit bit → P bit
each_bit P bit p q r s h =
    ⊎_elim (λ u. ⊎_elim (λ v. ⊎_elim (λ w. subst P (sym (eqb-true bit 1 w)) p) (λ w. subst P (sym (eqb-true bit 2 w)) q) (or_cases _ _ v)) (λ v. subst P (sym (eqb-true bit 4 v)) r) (or_cases _ _ u))
    (λ u. subst P (sym (eqb-true bit 8 u)) s) (or_cases _ _ h)

abbrev Tested : ℕ → Type 0
Tested bit = (byte : ℕ) → byte < 256 → not (eqb (bit_and byte bit) 0) ≡ eqb (byte / bit % 2) 1

pub tested : (bit byte : ℕ) → IsBit bit → byte < 256 → not (eqb (bit_and byte bit) 0) ≡ has bit byte
unfolding has
tested bit byte h k =
    each_bit Tested bit
    (λ n l. agree_below_at (λ b. not (eqb (bit_and b 1) 0)) (λ b. eqb (b / 1 % 2) 1) 256 n refl l)
    (λ n l. agree_below_at (λ b. not (eqb (bit_and b 2) 0)) (λ b. eqb (b / 2 % 2) 1) 256 n refl l)
    (λ n l. agree_below_at (λ b. not (eqb (bit_and b 4) 0)) (λ b. eqb (b / 4 % 2) 1) 256 n refl l)
    (λ n l. agree_below_at (λ b. not (eqb (bit_and b 8) 0)) (λ b. eqb (b / 8 % 2) 1) 256 n refl l)
    h byte k

abbrev Put : ℕ → Type 0
Put bit = (byte : ℕ) → byte < 256 → eqb (bit_or byte bit) (pick (eqb (byte / bit % 2) 1) byte (byte + bit)) ≡ true

pub put : (bit byte : ℕ) → IsBit bit → byte < 256 → bit_or byte bit ≡ with bit byte
unfolding with has pick
put bit byte h k =
    eqb-true _ _ (each_bit Put bit
    (λ n l. agree_below_at (λ b. eqb (bit_or b 1) (pick (eqb (b / 1 % 2) 1) b (b + 1))) (λ b. true) 256 n refl l)
    (λ n l. agree_below_at (λ b. eqb (bit_or b 2) (pick (eqb (b / 2 % 2) 1) b (b + 2))) (λ b. true) 256 n refl l)
    (λ n l. agree_below_at (λ b. eqb (bit_or b 4) (pick (eqb (b / 4 % 2) 1) b (b + 4))) (λ b. true) 256 n refl l)
    (λ n l. agree_below_at (λ b. eqb (bit_or b 8) (pick (eqb (b / 8 % 2) 1) b (b + 8))) (λ b. true) 256 n refl l)
    h byte k)
