-- What is known of a record behind the gate that every call begins with. Assumes nothing.
use Prim.Native.Nat.{◌<◌}
use mathlib.Core.Path.{◌≡◌, refl, sym, ◌∙◌}
use mathlib.Core.Bool.{Bool, true}
use mathlib.Core.List.{List}
use Rattle.std.specs.Prelude.{Ok}
use Rattle.record.specs.Fields.{top}
use Rattle.record.specs.declared.Record.{Record}
use Rattle.answers.specs.declared.Refusal.{Refusal}
use Rattle.wholeness.proofs.Facts.{Parts, parts, Counts, counts_of, staged_room}
use Rattle.bars.specs.Bars.{Bar, through}
use Rattle.bars.proofs.Passing.{Clear, clear}
use Rattle.gates.specs.Gates.{gate_of}
use Rattle.gates.proofs.Passing.{Gate, passed}

pub behind : {g : Gate} (sized sound : Bool) (r : Record) → g ≡ gate_of sized sound r → g ≡ Ok tt → Parts r
behind sized sound r e h = parts (passed sized sound r e h).is_whole

pub counts_behind : {g : Gate} (sized sound : Bool) (r : Record) → g ≡ gate_of sized sound r → g ≡ Ok tt → Counts r.entries r.applied r.attempted
counts_behind sized sound r e h = counts_of _ _ _ (behind sized sound r e h).counts

-- behind bars that let through what is staged alone, the revision can be raised, and the count of replacements
pub room_behind : {g : Gate} (sized sound : Bool) (r : Record) (bs : List (Bar Refusal)) → (Clear bs → r.staged ≡ true) → g ≡ through (gate_of sized sound r) bs →
    g ≡ Ok tt → (r.revision < top) × (r.replacements < top)
room_behind sized sound r bs f e h =
    let t = clear _ bs (sym e ∙ h) in
    staged_room _ _ _ _ _ _ (behind sized sound r refl t.0).staging (f t.1)
