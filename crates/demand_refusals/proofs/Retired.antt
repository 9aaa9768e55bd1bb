-- The retired number is never given: an answer has the number of its class, and no class has that one. Assumes nothing.
use Prim.Native.Nat.{ℕ}
use mathlib.Core.Path.{◌≡◌, ◌∙◌, ap}
use mathlib.Core.Bool.{true}
use mathlib.Core.Logic.{◌≢◌}
use lib.Dec.{eqb}
use Rattle.choice.proofs.Tests.{eqb_ne}
use Rattle.answers.specs.Classes.{Class, number_of}
use Rattle.calls.specs.Lending.{call_of, fits, leaves_of}
use Rattle.noting.specs.Through.{leaves_through}
use Rattle.status.specs.Status.{marks_of}
use Rattle.demand_refusals.specs.Retired.{retired, NeverGiven}
use Rattle.demand_refusals.proofs.ExactRefusals.{named-answer}
use Rattle.demand_refusals.proofs.Recorder.{recorder_named}
use Rattle.demand_refusals.proofs.Marks.{status-named}
use Rattle.demand_refusals.proofs.Numbers.{numbered}

another : (n : ℕ) (c : Class) → n ≡ number_of c → n ≢ retired
another n c e = eqb_ne n retired (ap (λ (m : ℕ). eqb m retired) e ∙ (numbered c).in_use)

pub never_given : NeverGiven
never_given = record {
  by_transaction = λ r c. another _ (leaves_of r c).told.class (named-answer (fits c) true r (call_of c));
  by_recorder = λ r log c. another _ (leaves_through r log c).told.class (recorder_named r log c);
  by_status = λ groups status id c. another _ (marks_of groups status id c).said.class (status-named groups status id c);
}
