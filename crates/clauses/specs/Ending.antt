-- The clauses of `commit`, `recover`, `recover_with`, `refresh`, `save_stamp` and `accepts_save`: t is what the call tells. Assumes
-- nothing.
use Rattle.std.specs.Prelude.{ℕ, ◌+◌, ◌≤◌, ◌≡◌, true, false, [], ◌∷◌, ◌≢◌, ◌↔◌, eqb}
use Rattle.choice.specs.Pick.{pick, ◌or◌}
use Rattle.areas.specs.Areas.{area_size}
use Rattle.phases.specs.Phases.{none, ready, recovered}
use Rattle.answers.specs.Classes.{refused}
use Rattle.answers.specs.Classes.Class.{performed, refusal}
use Rattle.record.specs.Answers.{Told}
use Rattle.record.specs.Fields.{top}
use Rattle.record.specs.declared.Record.{Record}
use Rattle.answers.specs.declared.Refusal.TheVariants.{Pending, Idle, NotReady}
use Rattle.wholeness.specs.Whole.{whole}
use Rattle.completeness.specs.Complete.{complete}
use Rattle.step_opens.specs.Opening.{opening}
use Rattle.step_ends.specs.Ending.{after_commit}
use Rattle.step_recoveries.specs.Recovering.{after_recovery}
use Rattle.step_stamps.specs.declared.SaveStamp.{SaveStamp}
use Rattle.clauses.specs.Keeping.{gained, SameStaged, SameBatch}

-- staged, the batch complete, and the phase none or `Ready`
pub record CanCommit (r : Record) : Type 0 where
  pub staged : r.staged ≡ true
  pub complete : complete r ≡ true
  pub place : eqb r.phase.number none or eqb r.phase.number ready ≡ true

-- what ok implies
pub record Committed (r : Record) (t : Told) : Type 0 where
  -- with a phase, all forward stages are done
  pub c193 : r.phase.number ≢ none → r.forward ≡ 5
  pub c194 : t.state.revision ≡ r.revision + 1
  pub c195 : t.state.staged ≡ false
  -- the accepted payload is the candidate, by its length
  pub c196 : t.state.accepted ≡ r.candidate
  -- the answer has the lengths of the old accepted and the recovery payload, and the entries (also C198, C199)
  pub c197 : t.values ≡ r.accepted ∷ r.recovery ∷ r.entries ∷ []
  -- as many applied as entries
  pub c200 : r.applied ≡ r.entries
  -- stronger: the whole record, that of an opening with the serial kept
  pub c189_record : t.state ≡ opening (after_commit r) r.candidate

pub record CommitClauses (r : Record) (t : Told) : Type 0 where
  -- `new.wf()`
  pub c189 : whole t.state ≡ true
  -- ok exactly if ..
  pub c190 : (t.class ≡ performed) ↔ CanCommit r
  -- an error implies `new == old`
  pub c191 : refused t.class ≡ true → t.state ≡ r
  -- an error is `Idle` if not staged and `NotReady` if staged
  pub c192 : refused t.class ≡ true → t.class ≡ refusal (pick r.staged NotReady Idle)
  -- C193 to C200
  pub ok : t.class ≡ performed → Committed r t

-- staged, no entries, the phase none or `Recovered`, and not 16
pub record CanRecover (r : Record) (n : ℕ) : Type 0 where
  pub staged : r.staged ≡ true
  pub empty : r.entries ≡ 0
  pub place : eqb r.phase.number none or eqb r.phase.number recovered ≡ true
  pub fits : n ≤ area_size

pub record Recovered (r : Record) (n : ℕ) (t : Told) : Type 0 where
  -- with a phase, all recovery stages are done (also C222)
  pub c207 : r.phase.number ≢ none → r.back ≡ 4
  -- the accepted payload is the recovered one, by its length (also C221)
  pub c208 : t.state.accepted ≡ n
  -- not staged (also C218)
  pub c209 : t.state.staged ≡ false
  -- the answer has the lengths of the old accepted, candidate and recovery payloads (also C211, C219, C220)
  pub c210 : t.values ≡ r.accepted ∷ r.candidate ∷ r.recovery ∷ []
  -- stronger: the whole record, as after a commit but for the revision (also C214)
  pub c202_record : t.state ≡ opening (after_recovery r) n

-- `recover` with a payload of length n, and `recover_with`, whose n is the retained one's
pub record RecoverClauses (r : Record) (n : ℕ) (t : Told) : Type 0 where
  -- `new.wf()` (also C214)
  pub c202 : whole t.state ≡ true
  -- the version stays (also C215)
  pub c203 : t.state.revision ≡ r.revision
  -- ok exactly if .. (also C216)
  pub c204 : (t.class ≡ performed) ↔ CanRecover r n
  -- an error implies `new == old` (also C217)
  pub c205 : refused t.class ≡ true → t.state ≡ r
  -- which error `recover_with` gives is open upstream: here 2 if not staged, else 4 (or 16)
  pub error : refused t.class ≡ true → gained t.class ≡ false → t.class ≡ refusal (pick r.staged NotReady Idle)
  -- C207 to C211, C218 to C222
  pub ok : t.class ≡ performed → Recovered r n t

pub record RefreshClauses (r : Record) (n : ℕ) (t : Told) : Type 0 where
  -- `new.wf()`
  pub c224 : whole t.state ≡ true
  pub c225 : SameBatch r t.state
  pub c226 : t.state.revision ≡ r.revision
  pub c227 : SameStaged r t.state
  -- ok exactly if not staged, and neither 3 nor 16
  pub c228 : (t.class ≡ performed) ↔ ((r.staged ≡ false) × (r.replacements ≢ top) × (n ≤ area_size))
  -- ok implies that the accepted payload is the given one, by its length, and answers with the old one's
  pub c229 : t.class ≡ performed → t.state.accepted ≡ n
  pub c230 : t.class ≡ performed → t.values ≡ r.accepted ∷ []
  -- an error implies `new == old`
  pub c231 : refused t.class ≡ true → t.state ≡ r

-- some exactly if not staged; then the domain and the version, and by request 3 the count of replacements
pub record StampClauses (r : Record) (domain : ℕ) (t : Told) : Type 0 where
  pub c115 : (t.class ≡ performed) ↔ (r.staged ≡ false)
  pub c116 : t.class ≡ performed → t.values ≡ domain ∷ r.revision ∷ r.replacements ∷ []
  pub error : refused t.class ≡ true → t.class ≡ refusal Pending
  pub kept : t.state ≡ r

-- upstream, true exactly if not staged, and both numbers agree: by request 3 replaced, and true exactly if all three do
pub record CheckClauses (r : Record) (domain : ℕ) (s : SaveStamp) (t : Told) : Type 0 where
  pub passes_exactly : (t.values ≡ 1 ∷ []) ↔ ((r.staged ≡ false) × (domain ≡ s.domain) × (r.revision ≡ s.revision) × (r.replacements ≡ s.replacements))
  pub answered : t.class ≡ performed
  pub kept : t.state ≡ r
