-- The numbers of documents 01 and 02, beside the names that the definitions go by: of the classes of answers, the kinds of events and
-- the status bits. Assumes nothing.
use Rattle.std.specs.Prelude.{ℕ, ◌≡◌, true, false, [], ◌∷◌, map, eqb, leb}
use Rattle.choice.specs.Pick.{◌and◌, ◌or◌}
use Rattle.answers.specs.Classes.{Class, refused, successful, granted, ticketed, taken, step_written}
use Rattle.record.specs.declared.Beginning.{Beginning}
use Rattle.record.specs.declared.Outcome.{Outcome}
use Rattle.status_bits.specs.Bits.{group_live, group_settled, group_pending, mark_linked, mark_cancelled, mark_initialized, mark_finished}
use Rattle.calls.specs.Calls.Work.{structure, update, rollback}
use Rattle.calls.specs.Calls.Report.{structured, updated, rolledBack}
use Rattle.calls.specs.Calls.Call.{begin, ask, report, commit, recover, recover_retained, refresh}
use Rattle.calls.specs.Kinds.{kind_of}
use Rattle.demand_refusals.specs.Retired.{retired}

-- what is said of a class, by its number
pub record Numbered (c : Class) (n : ℕ) : Type 0 where
  -- "Numbers 1 to 13 are refusals", and 14, 15 and 16, which "take its place": that of 8, which is "retired and never given"
  pub refusals : refused c ≡ (leb 1 n and leb n 16)
  pub in_use : eqb n retired ≡ false
  -- "0 | Done"
  pub success : successful c ≡ eqb n 0
  -- "Granted means Ticket or Finished."
  pub grants : granted c ≡ (eqb n 20 or eqb n 24)
  pub tickets : ticketed c ≡ eqb n 20
  -- More or Finished
  pub takes : taken c ≡ (eqb n 23 or eqb n 24)
  -- "Asks and reports answered 4, 5 or 20 to 24 are written"
  pub written : step_written c ≡ (eqb n 4 or eqb n 5 or leb 20 n and leb n 24)

-- "Kinds: 1 begin, 2 begin structural, 3, 5, 7 asks and 4, 6, 8 reports of structure, update, rollback, 9 commit, 10 recover,
-- 11 recover retained, 12 refresh", whatever each is given
unfoldable pub Kinds : Type 0
Kinds =
    (b : Beginning) (c o t n : ℕ) (x : Outcome) →
    map kind_of (begin false b ∷ begin true b ∷ ask structure ∷ report (structured c o) t x ∷ ask update ∷ report updated t x
    ∷ ask rollback ∷ report rolledBack t x ∷ commit ∷ recover n ∷ recover_retained ∷ refresh n ∷ [])
    ≡ 1 ∷ 2 ∷ 3 ∷ 4 ∷ 5 ∷ 6 ∷ 7 ∷ 8 ∷ 9 ∷ 10 ∷ 11 ∷ 12 ∷ []

-- "group bytes (1 live, 2 settled, 4 pending) and status bytes (1 linked, 2 cancelled, 4 initialized, 8 finished)"
unfoldable pub Bits : Type 0
Bits =
    group_live ∷ group_settled ∷ group_pending ∷ mark_linked ∷ mark_cancelled ∷ mark_initialized ∷ mark_finished ∷ []
    ≡ 1 ∷ 2 ∷ 4 ∷ 1 ∷ 2 ∷ 4 ∷ 8 ∷ []
