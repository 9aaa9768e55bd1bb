-- Document 02, request 1: "Number 8 is retired and never given." Assumes nothing.
use Rattle.std.specs.Prelude.{ℕ, List, ◌≢◌, true, false}
use Rattle.record.specs.declared.Record.{Record}
use Rattle.calls.specs.Lending.{Lending, leaves_of}
use Rattle.noting.specs.Through.{leaves_through}
use Rattle.status_bits.specs.declared.StatusCall.{StatusCall}
use Rattle.status.specs.Status.{marks_of}

abbrev pub retired : ℕ
retired = 8

-- no call of the transaction, the recorder or the status part answers it, whatever it is given
pub record NeverGiven : Type 0 where
  pub by_transaction : (r : Record) (c : Lending false) → (leaves_of r c).told.number ≢ retired
  pub by_recorder : (r : Record) (log : List ℕ) (c : Lending true) → (leaves_through r log c).told.number ≢ retired
  pub by_status : (groups status : List ℕ) (id : ℕ) (c : StatusCall) → (marks_of groups status id c).said.number ≢ retired
