-- What a call of a chain answers is what the contract of the public function says, in the transaction and through the recorder, whatever
-- is lent. Assumes nothing.
use Prim.Native.Nat.{ℕ}
use mathlib.Core.Path.{◌≡◌, refl}
use mathlib.Core.Bool.{Bool, true, false}
use mathlib.Core.List.{List}
use Rattle.choice.proofs.Picks.{no}
use Rattle.choice.proofs.Tests.{no_right}
use Rattle.record.specs.declared.Record.{Record}
use Rattle.log_layout.specs.Log.{full}
use Rattle.calls.specs.Calls.{AnyCall, step_of}
use Rattle.calls.specs.Calls.AnyCall.{opens, calls}
use Rattle.calls.specs.Lending.{Lending, call_of, fits, lent, moved, leaves_of}
use Rattle.noting.specs.Recorded.{with_log}
use Rattle.noting.specs.Through.{logs, leaves_through}
use Rattle.demand_chains.specs.Sending.{answered, answered_any}
use Rattle.demand_chains.proofs.Sending.{recorded_answer}

module _ (r : Record) where
  -- without a log nothing is full
  no_log : (sized : Bool) (c : AnyCall) → step_of sized true r c ≡ answered_any sized true false r c
  unfolding answered
  no_log sized (opens given l) = refl
  no_log sized (calls c) = no _ (no_right _ refl) refl

  pub sent_transaction : (c : Lending false) → (leaves_of r c).told ≡ answered_any (fits c) true false r (call_of c)
  sent_transaction c = no_log (fits c) (call_of c)

  through : (log : List ℕ) (sized sound : Bool) (c : AnyCall) (lent moved : List (List ℕ)) →
      (logs c (step_of sized sound r c) r log lent moved).told ≡ answered_any sized sound (full log) r c
  unfolding answered
  through log sized sound (opens given l) lent moved = refl
  through log sized sound (calls c) lent moved = recorded_answer _ _ _ r log lent moved

  pub sent_recorder : (log : List ℕ) (c : Lending true) →
      (leaves_through r log c).told ≡ answered_any (with_log (fits c) log).sized (with_log (fits c) log).sound (full log) r (call_of c)
  unfolding leaves_through
  sent_recorder log c = through log _ _ (call_of c) (lent c) (moved r c)
