-- Document 01, "What is lent and kept": when a record is complete. Assumes nothing.
use Rattle.std.specs.Prelude.{Bool, not, eqb}
use Rattle.choice.specs.Pick.{◌and◌}
use Rattle.record.specs.declared.Record.{Record}

-- "Complete means not restoring and applied = entries."
unfoldable pub complete : Record → Bool
complete r = not r.restoring and eqb r.applied r.entries
