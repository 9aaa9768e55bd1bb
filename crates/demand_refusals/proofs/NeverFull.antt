-- No step answers 12 by itself: through the log, 12 is the log's answer. Assumes nothing.
use mathlib.Core.Path.{◌≡◌}
use mathlib.Core.Bool.{Bool, false}
use lib.Dec.{eqb}
use borrow.Author.Tests.{not-true}
use Rattle.choice.proofs.Tests.{both}
use Rattle.record.specs.Answers.{Told}
use Rattle.record.specs.declared.Record.{Record}
use Rattle.calls.specs.Calls.{Call, step_with}
use Rattle.calls.specs.Calls.AnyCall.{calls}
use Rattle.demand_refusals.specs.Rows.{distinct}
use Rattle.demand_refusals.specs.Refusals.{numbers_of}
use Rattle.demand_refusals.proofs.OneRow.{unlisted}
use Rattle.demand_refusals.proofs.Refusals.{spoken}
use Rattle.demand_refusals.proofs.ExactRefusals.{listed_answer}

abbrev pub Other : Told → Type 0
Other t = eqb t.number 12 ≡ false

-- 12 is in no call's list
pub never_full : (sized sound : Bool) (r : Record) (c : Call) → Other (step_with sized sound r c)
unfolding distinct
never_full sized sound r c =
    unlisted _ 12 (numbers_of (calls c)) (listed_answer sized sound r (calls c)) (not-true _ (both (spoken sized sound r (calls c)).1.1).0)
