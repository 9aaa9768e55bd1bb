-- The clauses of the recorder: what a call through the log leaves, against what the same call leaves without one. Assumes nothing.
use Rattle.std.specs.Prelude.{ℕ, ◌≡◌, Bool, true, false, List, [], ◌∷◌, ◌≢◌, get_or, drop}
use Rattle.choice.specs.Pick.{◌and◌}
use Rattle.answers.specs.Classes.{Class, refused}
use Rattle.answers.specs.Classes.Class.{refusal}
use Rattle.record.specs.Answers.{refuse}
use Rattle.record.specs.Leaves.{Leaves, leaves}
use Rattle.record.specs.declared.Record.{Record}
use Rattle.record.specs.declared.Opening.{Opening}
use Rattle.answers.specs.declared.Refusal.TheVariants.{BadArea, Damaged, LogFull}
use Rattle.wholeness.specs.Whole.{whole}
use Rattle.log_layout.specs.Log.{count, head_words, full, sound, event}
use Rattle.calls.specs.Calls.{Call}
use Rattle.calls.specs.Kinds.{kind_of, written_as}
use Rattle.calls.specs.Lending.{Lending, fits, lent}
use Rattle.noting.specs.Recorded.{with_log}
use Rattle.events.specs.Entries.{log_of}
use Rattle.clauses.specs.Lending.{payload, unrecorded, Lends}
use Rattle.clauses.specs.Clauses.{Clauses}

-- all that a call leaves but the log
abbrev pub unlogged : Leaves → Leaves
unlogged v = leaves v.told (drop 1 v.lent)

-- v is left through a log, inner without one, of the kind of call that `written` tells
pub record Recorded (written : Class → Bool) (kind : ℕ) (r : Record) (log : List ℕ) (lent : List (List ℕ)) (inner v : Leaves) : Type 0 where
  -- C264, C317, C326, C335, and each clause on `core()`: unless the answer is 12, all but the log is what the call leaves without one
  pub c264 : v.told.class ≢ refusal LogFull → unlogged v ≡ inner
  -- document 01: "Where an entry does not fit, 12 is the whole answer"
  pub no_room : written inner.told.class ≡ true → full log ≡ true → v ≡ leaves (refuse LogFull r) (log ∷ lent)
  -- C267, C308, C316, C325, C334, C343, C355, C367: the history gains the event, with the new state's serial and revision
  pub c267 : written inner.told.class ≡ true → full log ≡ false → sound log ≡ true →
      log_of v ≡ event kind inner.told.number inner.told.state.serial inner.told.state.revision log
  pub unwritten : written inner.told.class ≡ false → log_of v ≡ log
  -- C305, C342, C354, C363, C364: an error implies `new == old`, of the record, of all that is lent, and of the log
  pub c305 : refused v.told.class ≡ true → (v.told.state ≡ r) × ((unlogged v).lent ≡ lent)
  pub c305_log : written v.told.class ≡ false → log_of v ≡ log

-- v is left by the call d through any log, with all that it is lent besides
pub record Through (r : Record) (log : List ℕ) (c : Lending true) (d : Call) (v : Leaves) : Type 0 where
  pub bad : (with_log (fits c) log).sized ≡ false → v ≡ leaves (refuse BadArea r) (log ∷ lent c)
  -- C252, C253, C256, C299, C309, C318, C327, C336, C347, C357: `wf()` is tested, of the record and of the log's head
  pub damaged : (with_log (fits c) log).sized ≡ true → sound log and whole r ≡ false → v ≡ leaves (refuse Damaged r) (log ∷ lent c)
  pub ready : (with_log (fits c) log).sized ≡ true → sound log ≡ true → Recorded (written_as (kind_of d)) (kind_of d) r log (lent c) (unrecorded r c) v

-- the clauses of the call below, of a recorded call that is not answered 12, and what it is lent besides the log
pub record Carries (r : Record) (c : Lending true) (d : Call) (v : Leaves) : Type 0 where
  pub told : Clauses r d v.told
  pub lends : Lends r c d (unlogged v)

-- an opening through the log that is not refused
pub record OpenRecorded (given : Opening) (accepted : List ℕ) (v : Leaves) : Type 0 where
  -- the accepted payload is the given one (also C279)
  pub c272 : payload v.told.state.accepted (get_or v.lent 1 []) ≡ accepted
  -- the version is the given one (also C280); not staged (also C281)
  pub c273 : v.told.state.revision ≡ given.revision
  pub c274 : v.told.state.staged ≡ false
  -- no events (also C282): the count is 0, and so is every event word
  pub c275 : count (log_of v) ≡ 0
  pub c275_words : (i : ℕ) → get_or (drop head_words (log_of v)) i 0 ≡ 0
