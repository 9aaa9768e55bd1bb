-- `rows::numbers` meets its contract. Assumes nothing.
use mathlib.Core.Path.{◌≡◌, refl}
use mathlib.Core.Bool.{Bool, true, false}
use mir.Val.{bool_byte}
use native.Mathlib.Omega.{arith}
use Rattle.rows.specs.Rows.{flag, row_of}
use Rattle.rows.proofs.numbers.Goals as goal

-- a bool's byte is its flag
flag-byte : (b : Bool) → bool_byte b ≡ flag b
flag-byte true = refl
flag-byte false = refl

pub overflow_cast-result-6 : goal.overflow_cast-result-6
overflow_cast-result-6 c = omega (arith, c.struct_known-6-1.given)

pub overflow_cast-result-7 : goal.overflow_cast-result-7
overflow_cast-result-7 c = omega (arith, c.struct_known-7-1.given)

pub returns : goal.returns
unfolding row_of
returns c = simp (flag-byte, c.work.ensures, c.number.ensures)
