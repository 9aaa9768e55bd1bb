-- `begin`, `begin_structural`, `pending_mut` and `work`, clause by clause, and which error a begin gives. Assumes nothing.
use Prim.Native.Nat.{ℕ}
use mathlib.Core.{Path.◌≡◌, Path.refl, Path.ap, Bool.Bool, Bool.true, Bool.false, List.List}
use lib.Dec.{eqb}
use borrow.Author.Tests.{ne_eqb, ltb-true, ltb-false, le-ltb, not-true}
use Rattle.choice.specs.Pick.{pick, ◌or◌}
use Rattle.choice.proofs.{Picks.yes, Picks.no, Tests.never, Tests.neither, Tests.eqb_ne}
use Rattle.areas.proofs.Laws.{over, within, not_over}
use Rattle.record.specs.{Answers.Told, Answers.answer, Fields.top, Fields.with_lengths, declared.Record.Record, declared.Beginning.Beginning, Given.standing}
use Rattle.answers.specs.{Classes.Class, Classes.Class.refusal, declared.Answer.TheVariants.Done, declared.Was.TheVariants.Nothing}
use Rattle.answers.specs.declared.Refusal.TheVariants.{Pending, Idle, Capacity, TooMany, LongCandidate, LongRecovery}
use Rattle.wholeness.specs.{Whole.whole}
use Rattle.answers.specs.declared.Refusal.{Refusal}
use Rattle.bars.specs.{Bars.Bar}
use Rattle.bars.proofs.Passing.{Clear}
use Rattle.gates.proofs.Passing.{fails}
use Rattle.step_begins.specs.Beginning.{first_phase, begun, begin_bars, begin_own, edit_bars, edit_own}
use Rattle.calls.specs.{Calls.step, Calls.Call.begin, Calls.Call.edit}
use Rattle.demand_steps.specs.Typed.{Typed}
use Rattle.demand_steps.proofs.Own.{own}
use Rattle.clauses.specs.{Keeping.gained, Keeping.Framed, Keeping.SameBatch, Staging.Room, Staging.CanBegin, Staging.Begun, Staging.BeginClauses, Staging.EditClauses, Gaps.BeginAnswer}
use Rattle.clauses.specs.Gaps.BeginAnswer.{pending, capacity, long_candidate, long_recovery, too_many, begins}
use Rattle.clauses.proofs.Splitting.{nor, differ, bar, Each, Decided, decides, only, denied, keeps, still_whole, settled}
use Rattle.clauses.proofs.Splitting.Decided.{refuses, does}

framed : {r : Record} {E : Class → Type 0} {d t : Told} {bs : List (Bar Refusal)} → Decided r E d bs t → whole t.state ≡ true →
    (d.state.accepted ≡ r.accepted) × (d.state.revision ≡ r.revision) → Framed r t
framed (refuses n e) k x = record { wf = k; accepted = refl; version = refl }
framed (does y) k x = record { wf = k; accepted = x.0; version = x.1 }

module _ (r : Record) (b : Beginning) where
  abbrev Error : Class → Type 0
  Error c = BeginAnswer r b c × (gained c ≡ false → c ≡ refusal (pick r.staged Pending Capacity))

  roomy : eqb r.revision top or eqb r.replacements top ≡ false → Room r
  roomy e = let x = neither e in (eqb_ne _ _ x.0, eqb_ne _ _ x.1)

  errors : Each Error (begin_bars r b)
  errors =
      bar (λ e. (pending e, λ g. ap refusal (yes _ e refl))) (λ e₁.
      bar (λ e. (capacity e₁ e, λ g. ap refusal (no _ e₁ refl))) (λ e₂.
      bar (λ e. (long_candidate e₁ (roomy e₂) (over _ e), never)) (λ e₃.
      bar (λ e. (long_recovery e₁ (roomy e₂) (within _ e₃) (over _ e), never)) (λ e₄.
      bar (λ e. (too_many e₁ (roomy e₂) (within _ e₃) (within _ e₄) (ltb-true _ _ e), never)) (λ e₅. refl)))))

  can : Clear (begin_bars r b) → CanBegin r b
  can x = let f = fails (begin_bars r b) x in record {
    idle = f Pending;
    room = roomy (f Capacity);
    candidate = within _ (f LongCandidate);
    recovery = within _ (f LongRecovery);
    few = ltb-false _ _ (f TooMany);
  }

  clear : CanBegin r b → Clear (begin_bars r b)
  clear y = (y.idle, (nor (ne_eqb _ _ y.room.0) (ne_eqb _ _ y.room.1), (not_over _ y.candidate, (not_over _ y.recovery, (le-ltb _ _ y.few, refl)))))

  answered : {d t : Told} → d.class ≡ Class.performed → Decided r Error d (begin_bars r b) t → BeginAnswer r b t.class
  answered p (refuses n e) = e.0
  answered p (does x) = rw p (begins (can x))

  module _ (m : Typed (standing r)) (w : whole r ≡ true) (structural : Bool) where
    decided : Decided r Error (answer (Done Nothing) (begun (first_phase structural) b r)) (begin_bars r b) (step r (begin structural b))
    unfolding own begin_own
    decided = settled r (begin structural b) (begin_bars r b) w refl errors

    pub begin-answer : BeginAnswer r b (step r (begin structural b)).class
    begin-answer = answered refl decided

    pub begin-clauses : BeginClauses structural r b (step r (begin structural b))
    unfolding begun
    begin-clauses = record {
      framed = framed decided (still_whole r m w (begin structural b)) (refl, refl);
      c147 = decides decided refl can clear;
      ok = only (λ t. Begun structural b t.state) decided (λ x.
          record { c148 = refl; c149 = refl; c149_candidate = refl; c149_recovery = refl; c150 = refl; c151 = refl; c152 = refl; c153 = refl });
      c154 = λ i. (denied decided refl i).0;
      c157 = λ i. (denied decided refl i).1.1;
    }

module _ (r : Record) (c o : ℕ) (m : Typed (standing r)) (w : whole r ≡ true) where
  abbrev Unstaged : Class → Type 0
  Unstaged d = d ≡ refusal Idle → r.staged ≡ false

  edited : Decided r Unstaged (answer (Done Nothing) (with_lengths r.accepted c o r)) (edit_bars r c o) (step r (edit c o))
  unfolding own edit_own
  edited = settled r (edit c o) (edit_bars r c o) w refl (λ e i. not-true _ e, λ e₁. (λ e. differ refl, λ e₂. (λ e. differ refl, λ e₃. refl)))

  idle : {d t : Told} → Decided r Unstaged d (edit_bars r c o) t → d.class ≡ Class.performed → t.class ≡ refusal Idle → (r.staged ≡ false) × (t.state.staged ≡ false)
  idle (refuses n e) p i = (e i, e i)
  idle (does x) p i = differ (rw p) i

  pub edit_clauses : EditClauses r c o (step r (edit c o))
  edit_clauses = record {
    framed = framed edited (still_whole r m w (edit c o)) (refl, refl);
    c124 = keeps (SameBatch r) edited (search) (search);
    c123_record = only (λ t. t.state ≡ with_lengths r.accepted c o r) edited (λ x. refl);
    c123_refused = λ i. (denied edited refl i).0;
    c128 = only (λ t. (t.state.candidate ≡ c) × (t.state.recovery ≡ o)) edited (λ x. (refl, refl));
    c129 = λ i. (idle edited refl i).0;
    c130 = λ i. (idle edited refl i).1;
  }
