-- Demand 1 for the transaction: a call answers one of document 01's list, exactly by its rows, and a refusal returns the record that was
-- given and leaves all that was lent. Assumes nothing.
use Prim.Native.Nat.{ℕ}
use mathlib.Core.Path.{◌≡◌, refl, sym}
use mathlib.Core.Bool.{true, false}
use lib.Dec.{eqb}
use Rattle.choice.proofs.Picks.{yes}
use Rattle.answers.specs.Classes.{refused}
use Rattle.record.specs.declared.Record.{Record}
use Rattle.calls.specs.Lending.{Lending, call_of, lent, fits, moved, leaves_of}
use Rattle.demand_refusals.specs.Rows.{given, among}
use Rattle.demand_refusals.specs.Refusals.{returned, rows, numbers_of}
use Rattle.demand_refusals.proofs.ExactRefusals.{exact-refusals, listed_answer, refusal-returns}

module _ (r : Record) (c : Lending false) where
  pub transaction_exact : (n : ℕ) → eqb (leaves_of r c).told.number n ≡ given (rows (fits c) true r (call_of c)) n
  transaction_exact n = exact-refusals (fits c) true r (call_of c) n

  pub transaction_listed : among (leaves_of r c).told.number (numbers_of (call_of c)) ≡ true
  transaction_listed = listed_answer (fits c) true r (call_of c)

  pub transaction_refusal : refused (leaves_of r c).told.class ≡ true
      → ((leaves_of r c).told.state ≡ returned r (call_of c)) × ((leaves_of r c).lent ≡ lent c)
  transaction_refusal h = (refusal-returns (fits c) true r (call_of c) h, sym (yes (moved r c) h refl))
