-- The clauses of `poll_update` and `poll_rollback`, of an asking and of a report alike: t is what it tells of the record r; and the
-- outcomes of a report. Assumes nothing.
use Rattle.std.specs.Prelude.{ℕ, ◌<◌, ◌≡◌, Bool, true, false, not, ◌||◌, ◌≢◌, eqb}
use Rattle.choice.specs.Pick.{◌or◌}
use Rattle.phases.specs.Phases.{none, updates}
use Rattle.answers.specs.Classes.{Class, is, takes}
use Rattle.answers.specs.Classes.Class.{performed, refusal, stepping}
use Rattle.answers.specs.Classes.StepAnswer.{more, finished}
use Rattle.record.specs.Answers.{Told, answer, refuse}
use Rattle.tickets.specs.Live.{is_live}
use Rattle.record.specs.declared.Record.{Record}
use Rattle.record.specs.declared.Outcome.{Outcome}
use Rattle.record.specs.declared.Outcome.TheVariants as O
use Rattle.answers.specs.declared.Answer.TheVariants.{Waiting, Failed}
use Rattle.answers.specs.declared.Refusal.TheVariants.{NotReady, Recovering, Stale}
use Rattle.completeness.specs.Complete.{complete}
use Rattle.clauses.specs.Keeping.{gained, SameStaged, Framed}

-- `Pending` and `Ready(Err(_))`: Ticket, Waiting and Failed, and the refusals 4 and 5
abbrev pub unfinished : Class → Bool
unfinished performed = false
unfinished (refusal why) = is NotReady why || is Recovering why
unfinished (stepping s) = not (takes s)

pub record UpdateClauses (r : Record) (t : Told) : Type 0 where
  -- in a phase other than none and `Updates`: `old == new`
  pub c76 : r.phase.number ≢ none → r.phase.number ≢ updates → t.state ≡ r
  -- there `out == Ready(Err(Recovering))`
  pub c77 : r.phase.number ≢ none → r.phase.number ≢ updates → gained t.class ≡ false → t.class ≡ refusal Recovering
  -- C89 to C91
  pub framed : Framed r t
  -- `new.staged() == old.staged()`
  pub c92 : SameStaged r t.state
  -- the number of entries stays
  pub c93 : t.state.entries ≡ r.entries
  -- `Ready(Ok(true))` implies that the batch is complete
  pub c95 : t.class ≡ stepping finished → complete t.state ≡ true
  -- in no phase or in `Updates`, `Pending` or `Ready(Err(_))` implies that it is not
  pub c96 : eqb r.phase.number none or eqb r.phase.number updates ≡ true → unfinished t.class ≡ true → complete t.state ≡ false

pub record RollbackClauses (r : Record) (t : Told) : Type 0 where
  -- C100 to C102
  pub framed : Framed r t
  -- `new.staged() == old.staged()`
  pub c103 : SameStaged r t.state
  -- the batch is restoring
  pub c104 : gained t.class ≡ false → t.state.restoring ≡ true
  -- `Ready(Ok(true))` implies that it has no entries
  pub c105 : t.class ≡ stepping finished → t.state.entries ≡ 0
  -- `Pending` or `Ready(Err(_))` implies that it has entries
  pub c106 : unfinished t.class ≡ true → 0 < t.state.entries
  -- stronger: and so does `Ready(Ok(false))`, so that Finished is given exactly where the last action is off
  pub c100_more : t.class ≡ stepping more → 0 < t.state.entries

-- C80, C81, C239, C240: a report by its outcome, of the kind of ticket that it takes: `tells` gives what each outcome is told, and s is the
-- record with the ticket spent and the payloads stored
pub record ReportAnswers (work ticket : ℕ) (r s : Record) (tells : Outcome → Told) : Type 0 where
  pub c80 : is_live work ticket r.live ≡ true → tells O.Waiting ≡ answer Waiting s
  pub c81 : (code : ℕ) → is_live work ticket r.live ≡ true → tells (O.Failed code) ≡ answer (Failed code) s
  pub c240 : (x : Outcome) → is_live work ticket r.live ≡ false → tells x ≡ refuse Stale r
