-- Plain data, as a walk uses it: what a type's values are in the machine, and that they are owned for nothing.
--     Data             a type of one machine value each, which owns only facts.        number       a number is such data
--     word             how MIR writes the type of a number
-- Assumes nothing.
use mathlib.Core.List.{[], ◌∷◌}
use seplogic.Ra.Ura.{Ura}
use mir.Syntax.{Ty, w64, ty_int}
use mir.Val.{Val, vint}
use types.Logic.{Logic}
use denote.RattleType.{RattleType}
use denote.Laws.{Is, Tells, Makes, Lawful}
use denote.Plain.{uint_Tells, uint_Makes, uint_Lawful}
use denote.Builtin.{usize}

pub record Data (R : RattleType) : Type 2 where
  pub low : R.Denot → Val
  pub tells : Tells R (Is R) (λ x. low x ∷ [])
  pub makes : {M : Type 1} {𝓤 : Ura M} (𝓛 : Logic 𝓤) → Makes 𝓛 R (Is R)
  pub lawful : {M : Type 1} {𝓤 : Ura M} (𝓛 : Logic 𝓤) → Lawful 𝓛 R

abbrev pub number : Data usize
number = record { low = vint w64; tells = uint_Tells w64; makes = λ 𝓛. uint_Makes 𝓛 w64; lawful = λ 𝓛. uint_Lawful 𝓛 w64 }

abbrev pub word : Ty
word = ty_int w64
