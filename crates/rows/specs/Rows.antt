-- A record as a row of numbers. The order is that of the driver's page, "record R S A C V G P F B N D T E K M", with
-- request 3's count at its end. Assumes nothing.
use Rattle.std.specs.Prelude.{ℕ, Bool, true, false, List, [], ◌∷◌}
use Rattle.tickets.specs.Live.{work_of, number}
use Rattle.record.specs.declared.Record.{Record}

abbrev pub flag : Bool → ℕ
flag true = 1
flag false = 0

-- "revision, serial, lengths of accepted, candidate and recovery, staged (0 or 1), phase, forward, back, entries, applied, attempted,
-- restoring (0 or 1), kind of live ticket (0 none, 1 structure, 2 update, 3 rollback), its number", and "a sixteenth number at its end,
-- the count of replacements"
unfoldable pub row_of : Record → List ℕ
row_of r =
    r.revision ∷ r.serial ∷ r.accepted ∷ r.candidate ∷ r.recovery ∷ flag r.staged ∷ r.phase.number ∷ r.forward ∷ r.back ∷
    r.entries ∷ r.applied ∷ r.attempted ∷ flag r.restoring ∷ work_of r.live ∷ number r.live ∷ r.replacements ∷ []

-- the largest number of 8 bits, and of 32
abbrev pub top8 : ℕ
top8 = 255

abbrev pub top32 : ℕ
top32 = 4294967295

abbrev pub fields : ℕ
fields = 16
