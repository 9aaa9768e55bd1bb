-- Document 01, "Modules", 1: the phases' numbers, successors and boundaries. Assumes nothing.
use Rattle.std.specs.Prelude.{ℕ, ◌+◌, Bool, leb, eqb, Option, Some, None}
use Rattle.choice.specs.Pick.{pick, ◌and◌, ◌or◌}
use Rattle.phases.specs.declared.Phase.{Phase}

-- "0 none, 1 Remove, 2 SettleRemoved, 3 Mount, 4 SettleMounted, 5 Updates, 6 Adopt, 7 Ready, 8 Undo, 9 RecoverRemove,
-- 10 RecoverSettleRemoved, 11 RecoverMount, 12 RecoverSettleMounted, 13 Recovered"
abbrev pub none : ℕ
none = 0

abbrev pub remove : ℕ
remove = 1

abbrev pub settle_removed : ℕ
settle_removed = 2

abbrev pub mount : ℕ
mount = 3

abbrev pub settle_mounted : ℕ
settle_mounted = 4

abbrev pub updates : ℕ
updates = 5

abbrev pub adopt : ℕ
adopt = 6

abbrev pub ready : ℕ
ready = 7

abbrev pub undo : ℕ
undo = 8

abbrev pub recover_remove : ℕ
recover_remove = 9

abbrev pub recover_settle_removed : ℕ
recover_settle_removed = 10

abbrev pub recover_mount : ℕ
recover_mount = 11

abbrev pub recover_settle_mounted : ℕ
recover_settle_mounted = 12

abbrev pub recovered : ℕ
recovered = 13

-- the phase of a number
unfoldable pub from_number : ℕ → Option Phase
from_number n = pick (leb n recovered) (Some (record { number = n })) None

-- "The successor of 1 to 4, 6 and 9 to 12 is the next number; the others have none."
unfoldable pub has_successor : ℕ → Bool
has_successor n = leb remove n and leb n settle_mounted or eqb n adopt or leb recover_remove n and leb n recover_settle_mounted

unfoldable pub successor : ℕ → Option Phase
successor n = pick (has_successor n) (Some (record { number = n + 1 })) None

-- "Boundaries: 5, 7, 13."
unfoldable pub boundary : ℕ → Bool
boundary n = eqb n updates or eqb n ready or eqb n recovered
