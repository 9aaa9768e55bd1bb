-- Demand 1 through the log: which number a call of the recorder answers, exactly, and what a refusal leaves of the log. Assumes nothing.
use Rattle.std.specs.Prelude.{ℕ, Bool, true, List, ◌∷◌, eqb}
use Rattle.choice.specs.Pick.{pick, ◌and◌, ◌or◌}
use Rattle.record.specs.declared.Record.{Record}
use Rattle.log_layout.specs.Log.{full, event}
use Rattle.log_layout.specs.Kinds.{asks}
use Rattle.calls.specs.Lending.{Lending, call_of, fits}
use Rattle.calls.specs.Kinds.{no_kind, kind, written_as}
use Rattle.noting.specs.Recorded.{with_log}
use Rattle.noting.specs.Through.{inner}
use Rattle.demand_refusals.specs.Rows.{given}
use Rattle.demand_refusals.specs.Refusals.{rows, numbers_of}

-- "12 last": LogFull, "no room for an event to be written", and else the inner answer by its row
unfoldable pub given_through : Record → List ℕ → Lending true → ℕ → Bool
given_through r log c n =
    pick (written_as (kind c) (inner r log c).class and full log) (eqb 12 n)
    (given (rows (with_log (fits c) log).sized (with_log (fits c) log).sound r (call_of c)) n)

-- 12 besides, where the call has a kind
unfoldable pub numbers_through : Lending true → List ℕ
numbers_through c = pick (eqb (kind c) no_kind) (numbers_of (call_of c)) (12 ∷ numbers_of (call_of c))

-- "the log entry of an ask answered 4 or 5"
unfoldable pub entered : ℕ → ℕ → Bool
entered k n = asks k and (eqb n 4 or eqb n 5)

-- the log after a refusal of number n: it stays but for that entry, which is "kind, answer, serial after, revision after"
unfoldable pub log_after : Record → List ℕ → ℕ → ℕ → List ℕ
log_after r log k n = pick (entered k n) (event k n r.serial r.revision log) log
