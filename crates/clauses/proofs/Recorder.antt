-- The recorder, clause by clause: what it does about any step, and so each of its twelve calls against the same call without a log.
-- Through a log whose size and head are right, and unless the answer is 12, the clauses of the call below are carried over. Assumes
-- nothing.
use Prim.Native.Nat.{ℕ}
use mathlib.Core.{Path.◌≡◌, Path.refl, Path.sym, Path.◌∙◌, Path.ap, Path.subst, Bool.Bool, Bool.true, Bool.false, Bool.not, List.List, List.◌∷◌, Logic.◌≢◌}
use borrow.Author.Tests.{not-true, not-false}
use Rattle.choice.specs.Pick.{pick, ◌and◌, ◌or◌}
use Rattle.choice.proofs.{Picks.yes, Picks.no, Picks.picked, Picks.each, Tests.both, Tests.never}
use Rattle.record.specs.{Answers.Told, Answers.refuse, Leaves.Leaves, Leaves.leaves, Leaves.moving, declared.Record.Record, Given.standing}
use Rattle.answers.specs.{Classes.Class, Classes.refused, Classes.refusal_written, Classes.call_written, Classes.Class.performed, Classes.Class.refusal}
use Rattle.answers.specs.{Classes.Class.stepping, declared.Refusal.Refusal, declared.Refusal.TheVariants.BadArea}
use Rattle.answers.specs.{declared.Refusal.TheVariants.Damaged, declared.Refusal.TheVariants.LogFull}
use Rattle.wholeness.specs.{Whole.whole}
use Rattle.gates.specs.{Gates.gate_of, Gates.gated}
use Rattle.log_layout.specs.Log.{sound, appended}
use Rattle.noting.specs.{Recorded.with_log, Recorded.recorded, Through.inner, Through.logs, Through.leaves_through}
use Rattle.calls.specs.{Calls.Call, Calls.AnyCall, Calls.step_of, Calls.AnyCall.calls, Kinds.kind_of, Kinds.written_as}
use Rattle.calls.specs.Lending.{Lending, call_of, fits, lent, moved}
use Rattle.demand_steps.specs.Typed.{Typed}
use Rattle.demand_refusals.{specs.Refusals.returned, proofs.ExactRefusals.refusal-returns}
use Rattle.demand_steps.proofs.Testing.{not_yes}
use Rattle.clauses.specs.{Clauses.Clauses, Lending.Lends, Lending.unrecorded, Recording.unlogged, Recording.Recorded, Recording.Through, Recording.Carries}
use Rattle.clauses.proofs.{Splitting.clash, Lendings.Gates, Lendings.gates, Lendings.lends, Lendings.Gates.behind, Lendings.Gates.alone, Clauses.clauses}

-- any step that a refusal leaves as it was
records : (written : Class → Bool) (kind : ℕ) (t : Told) (r : Record) (log : List ℕ) (lent moved : List (List ℕ)) → (refused t.class ≡ true → t.state ≡ r) →
    Recorded written kind r log lent (moving t lent moved) (recorded written kind t r log lent moved)
unfolding recorded appended
records written kind t r log lent moved f =
    picked (Recorded written kind r log lent (moving t lent moved)) _ (λ e. record {
      c264 = λ n. refl;
      no_room = λ i. clash _ i (not-true _ e);
      c267 = λ i. clash _ i (not-true _ e);
      unwritten = λ i. refl;
      c305 = λ i. (f i, sym (yes _ i refl));
      c305_log = λ i. refl;
    }) (λ e₁.
    picked (Recorded written kind r log lent (moving t lent moved)) _ (λ e. record {
      c264 = λ n. absurd (n refl);
      no_room = λ i j. refl;
      c267 = λ i j. clash _ e j;
      unwritten = λ i. refl;
      c305 = λ i. (refl, refl);
      c305_log = λ i. refl;
    }) (λ e₂. record {
      c264 = λ n. refl;
      no_room = λ i j. clash _ j e₂;
      c267 = λ i j s. sym (no _ (ap not s) (no _ e₂ refl));
      unwritten = λ i. clash _ (not-false _ e₁) i;
      c305 = λ i. (f i, sym (yes _ i refl));
      c305_log = λ i. clash _ (not-false _ e₁) i;
    }))

-- in the calls that are written only where they answer 0, no refusal is
pub refused_unwritten : (c : Class) → refused c ≡ true → call_written c ≡ false
refused_unwritten performed e = never (sym e)
refused_unwritten (refusal why) e = refl
refused_unwritten (stepping s) e = refl

-- nor is a refusal but 4 and 5 in any
unwritten : (kind : ℕ) (why : Refusal) → refusal_written why ≡ false → written_as kind (refusal why) ≡ false
unfolding written_as
unwritten kind why e = each (λ (b : Bool). b ≡ false) _ refl (each (λ (b : Bool). b ≡ false) _ e refl)

-- what joins the log has the right sizes itself
pub fit : (fits : Bool) (log : List ℕ) → (with_log fits log).sized ≡ true → fits ≡ true
unfolding with_log
fit fits log h = (both h).0

module _ (r : Record) (log : List ℕ) (c : Lending true) {d : Call} (e : call_of c ≡ calls d) where
  abbrev through : Told → Leaves
  through t = recorded (written_as (kind_of d)) (kind_of d) t r log (lent c) (moved r c)

  -- what it leaves, by what its step tells
  leaves_by : {t : Told} → inner r log c ≡ t → leaves_through r log c ≡ through t
  unfolding leaves_through
  leaves_by {t} q = ap (λ (u : Told). logs (call_of c) u r log (lent c) (moved r c)) q ∙ ap (λ (a : AnyCall). logs a t r log (lent c) (moved r c)) e

  -- a refusal that is not written leaves all as it was
  silent : (why : Refusal) → refusal_written why ≡ false → through (refuse why r) ≡ leaves (refuse why r) (log ∷ lent c)
  unfolding recorded
  silent why n = sym (yes _ (not_yes _ (unwritten (kind_of d) why n)) (ap (λ (l : List (List ℕ)). leaves (refuse why r) (log ∷ l)) (yes _ refl refl)))

  -- the two tests of the gate
  bad_size : Gates r c → (with_log (fits c) log).sized ≡ false → inner r log c ≡ refuse BadArea r
  unfolding gate_of gated pick
  bad_size (behind own is) z = is _ _ ∙ rw z
  bad_size (alone s l) z = never l

  bad_head : Gates r c → (with_log (fits c) log).sized ≡ true → sound log and whole r ≡ false → inner r log c ≡ refuse Damaged r
  unfolding with_log gate_of gated pick
  bad_head (behind own is) z f = is _ _ ∙ rw (z, f)
  bad_head (alone s l) z f = never l

  equal : refused (step_of (fits c) true r (call_of c)).class ≡ true → (step_of (fits c) true r (call_of c)).state ≡ r
  unfolding returned
  equal f = refusal-returns (fits c) true r (call_of c) f ∙ ap (returned r) e

  at_size : (with_log (fits c) log).sized ≡ true → sound log ≡ true → inner r log c ≡ step_of (fits c) true r (call_of c)
  unfolding with_log
  at_size z h = ap (λ (b : Bool). step_of (with_log (fits c) log).sized b r (call_of c)) h ∙ ap (λ (a : Bool). step_of a true r (call_of c)) (z ∙ sym (fit (fits c) log z))

  pub recorded_clauses : Through r log c d (leaves_through r log c)
  unfolding refusal_written ◌or◌
  recorded_clauses = record {
    bad = λ z. leaves_by (bad_size (gates r c e) z) ∙ silent BadArea refl;
    damaged = λ z f. leaves_by (bad_head (gates r c e) z f) ∙ silent Damaged refl;
    ready = λ z h. subst (Recorded _ _ r log (lent c) (unrecorded r c)) (sym (leaves_by (at_size z h))) (records _ _ _ r log (lent c) (moved r c) equal);
  }

  module _ (z : (with_log (fits c) log).sized ≡ true) (h : sound log ≡ true) (n : (leaves_through r log c).told.class ≢ refusal LogFull) where
    -- what holds of a call without a log holds through one, the log aside
    pub carried-over : (P : Leaves → Type 0) → P (unrecorded r c) → P (unlogged (leaves_through r log c))
    carried-over P p = subst P (sym ((recorded_clauses.ready z h).c264 n)) p

    pub carried : Typed (standing r) → whole r ≡ true → Carries r c d (leaves_through r log c)
    carried m w = let x = lends r c e in
        record { told = carried-over (λ v. Clauses r d v.told) (rw (x.tells (fit (fits c) log z)) (clauses r m w d)); lends = carried-over (Lends r c d) x }
