-- A page on which a byte is put is the loan that it was, and as long. Assumes nothing.
use mathlib.Core.Path.{◌≡◌, refl}
use Prim.Native.Nat.{ℕ}
use lib.Dec.{ltb}
use lib.ListN.{length}
use Rattle.std.proofs.lemmas.List.{length-set}
use Rattle.choice.proofs.Picks.{each}
use Rattle.text.specs.declared.Page.{Page}
use Rattle.text.specs.Writing.{put_byte}

abbrev pub AsLent : Page → Page → Type 0
AsLent p q = (q.bytes.ghost_name ≡ p.bytes.ghost_name) × (length q.bytes.now ≡ length p.bytes.now)

pub as_lent : (p : Page) (byte : ℕ) → AsLent p (put_byte p byte)
unfolding put_byte
as_lent p byte = each (AsLent p) (ltb p.written (length p.bytes.now)) (refl, length-set _ _ _) (refl, refl)
