-- `seeds::fill` meets its contract: to fill what is left stays what it was at the start. Assumes nothing.
use Rattle.std.proofs.Common.{◌≡◌, ℕ, ◌+◌, ◌%◌, ◌<◌, ◌∙◌, arith}
use Rattle.seeds.proofs.Seeding.{seed_start, seed_next, seed_over}
use Rattle.seeds.proofs.fill.Goals as goal

-- the byte after (s mod 251) is (s + 1) mod 251
after : (s i : ℕ) {v w : ℕ} → v ≡ (s + i) % 251 → (v < 251 → w ≡ (v + 1) % 251) → w ≡ (s + (i + 1)) % 251
after s i e f = let g = f (omega arith) in omega arith

pub loop-i-init : goal.loop-i-init
loop-i-init c = (omega arith, seed_start _ _ _ _)

pub loop-i-preserved : goal.loop-i-preserved
loop-i-preserved c =
    let inv = c.loop-i.invariant in
    (after _ _ inv.0 c.next-value.ensures, seed_next _ _ _ c.loop-i.i c.loop-i.bytes (omega arith) (omega arith) inv.0 ∙ inv.1)

pub returns : goal.returns
returns c = seed_over _ _ _ _ _ (omega arith) ∙ c.loop-i.invariant.1
