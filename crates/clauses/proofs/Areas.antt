-- Payloads, updates and identities in what is lent: the clauses that need the areas or the table. Assumes nothing.
use Prim.Native.Nat.{ℕ, ◌*◌, ◌-◌, ◌/◌, ◌%◌, ◌≤◌}
use mathlib.Core.{Path.◌≡◌, Path.refl, Path.sym, Path.◌∙◌, Path.ap, Path.subst, Bool.Bool, Bool.true, Bool.false, List.List, List.[], List.◌∷◌}
use native.Mathlib.Omega.{arith}
use lib.{Dec.eqb, ListN.length}
use Rattle.choice.specs.Pick.{◌and◌}
use Rattle.choice.proofs.Tests.{tests, both, test, never}
use Rattle.areas.specs.Areas.{sized, copied}
use Rattle.batch.specs.Batch.{limit, table_sized, paired, stored}
use Rattle.batch.proofs.Laws.{stored_identities}
use Rattle.std.specs.Prelude.{Option, Some, None}
use Rattle.phases.specs.{declared.Phase.Phase}
use Rattle.record.specs.{Answers.Told, Leaves.Leaves, Given.beginning, declared.Record.Record, declared.Outcome.Outcome, Given.standing}
use Rattle.record.specs.{declared.Beginning.Beginning}
use Rattle.answers.specs.{Classes.refused, Classes.Class.performed}
use Rattle.wholeness.specs.Whole.{whole}
use Rattle.log_layout.specs.Log.{sound}
use Rattle.noting.specs.{Recorded.with_log, Through.leaves_through}
use Rattle.step_begins.specs.Beginning.{edit_bars, edit_own}
use Rattle.step_structure.specs.Structure.{onward, advanced, structure_done, report_structure_bars, report_structure_own}
use Rattle.calls.specs.{Calls.Report, Calls.Call, Calls.step, Calls.AnyCall.calls, Lending.Stored.structured, Lending.Stored.updated, Lending.Stored.rolledBack, Lending.Lending}
use Rattle.calls.specs.{Lending.call_of, Lending.fits, Lending.moved, Lending.leaves_of, Lending.Lending.begin, Lending.Lending.report, Lending.Lending.edit}
use Rattle.demand_steps.specs.Typed.{Typed}
use Rattle.demand_steps.proofs.{Own.own, Own.row, Facts.Whole}
use Rattle.clauses.specs.{Lending.Stages, Lending.Holds, Lending.SameIdentities, Staging.Begun, Gaps.BeginAnswer, Gaps.Rejects, Recording.unlogged}
use Rattle.clauses.proofs.{Splitting.Kept, Splitting.by, Splitting.past, Splitting.outcomes, Splitting.facts_after, Splitting.on_step, Stagings.begin-answer, Stagings.begin-clauses, Lendings.lends}
use Rattle.clauses.proofs.{Lendings.payload_copied, Lendings.pairs_copied, Recorder.fit, Recorder.carried-over}

-- two payloads that were copied with their lengths, which fit, as the record afterwards is whole
stages : {v : Leaves} (c o new old : List ℕ) (rest : List (List ℕ)) → sized c and sized o ≡ true → Whole v.told.state →
    (v.told.state.candidate ≡ length new) × (v.told.state.recovery ≡ length old) → v.lent ≡ copied new c ∷ copied old o ∷ rest → Stages new old v
stages c o new old rest s w e l = let x = both s in
    rw (e.0, e.1, l) record {
      candidate = payload_copied new c x.0 (omega (arith, w.lengths.candidate));
      recovery = payload_copied old o x.1 (omega (arith, w.lengths.recovery));
    }

-- an even number of words is twice its half
even : (n : ℕ) → eqb (n % 2) 0 ≡ true → n / 2 ≤ limit → n ≤ 2 * limit
even n e h = omega tests

-- going on keeps both lengths
on_keeps : (next : Option Phase) (q : Record) → ((onward next q).candidate ≡ q.candidate) × ((onward next q).recovery ≡ q.recovery)
unfolding onward
on_keeps (Some next) q = (refl, refl)
on_keeps None q = (refl, refl)

module _ (r : Record) (m : Typed (standing r)) (w : whole r ≡ true) where
  -- where all sizes are right, what holds of the step holds of what is told
  of_told : (P : Told → Type 0) (c : Lending false) {d : Call} → call_of c ≡ calls d → fits c ≡ true → P (step r d) → P (leaves_of r c).told
  of_told P c e s p = subst P (sym ((lends r c e).tells s)) p

  -- `begin` and `begin_structural`
  module _ (structural : Bool) (c o t new old pairs : List ℕ) where
    abbrev given : Beginning
    given = beginning (length new) (length old) (length pairs / 2)

    abbrev left : Leaves
    left = leaves_of r (begin structural c o t new old pairs)

    module _ (s : sized c and sized o and table_sized t and paired pairs ≡ true) where
      told : (P : Told → Type 0) → P (step r (Call.begin structural given)) → P left.told
      told P = of_told P (begin structural c o t new old pairs) refl s

      pub begin-areas : left.told.class ≡ performed → Stages new old left × Holds pairs left
      unfolding paired
      begin-areas h =
          let z = both s in
          let q = both z.0 in
          let g = told (λ u. u.class ≡ performed → Begun structural given u.state) (begin-clauses r given m w structural).ok h in
          let k = told (λ u. Whole u.state) (facts_after r m w (Call.begin structural given)) in
          let l = (lends r (begin {logged = false} structural c o t new old pairs) refl).moves (ap refused h) in (
            stages c o new old _ q.0 k (g.c149_candidate, g.c149_recovery) l,
            record { number = g.c153; updates = rw l (pairs_copied pairs t q.1 (even (length pairs) z.1 (omega (arith, k.size.few, g.c153)))) },
          )

      -- what a refused one holds, and where one that is performed starts
      pub begin-rejects : Rejects r given (c ∷ o ∷ t ∷ []) left
      begin-rejects = let x = begin-clauses r given m w structural in record {
        answered = told (λ u. BeginAnswer r given u.class) (begin-answer r given m w structural);
        same = λ e. (told (λ u. refused u.class ≡ true → u.state ≡ r) x.c154 e, (lends r (begin {logged = false} structural c o t new old pairs) refl).stays e);
        zero = λ e. let b = told (λ u. u.class ≡ performed → Begun structural given u.state) x.ok e in (b.c150, b.c151, b.c152);
      }

    -- C306, C307: through a log
    pub begin-carried-areas : (log : List ℕ) → (with_log (sized c and sized o and table_sized t and paired pairs) log).sized ≡ true → sound log ≡ true →
        let v = leaves_through r log (begin structural c o t new old pairs) in v.told.class ≡ performed → Stages new old (unlogged v) × Holds pairs (unlogged v)
    begin-carried-areas log z h e =
        carried-over r log (begin structural c o t new old pairs) refl z h (λ i. never (ap refused (sym i ∙ e)))
        (λ v. v.told.class ≡ performed → Stages new old v × Holds pairs v) (begin-areas (fit _ log z)) e

  -- `pending_mut` and `work`, and what `structural_call` leaves
  module _ (c o new old : List ℕ) (s : sized c and sized o ≡ true) where
    abbrev Stores : Told → Type 0
    Stores u = refused u.class ≡ false → (u.state.candidate ≡ length new) × (u.state.recovery ≡ length old)

    replaced : (x : Lending false) {d : Call} → call_of x ≡ calls d → fits x ≡ true → moved r x ≡ copied new c ∷ copied old o ∷ [] → Stores (step r d) →
        refused (leaves_of r x).told.class ≡ false → Stages new old (leaves_of r x)
    replaced x {d} e f q p h =
        stages c o new old [] s (of_told (λ u. Whole u.state) x e f (facts_after r m w d)) (of_told Stores x e f p h) ((lends r x e).moves h ∙ q)

    pub edit-areas : refused (leaves_of r (edit c o new old)).told.class ≡ false → Stages new old (leaves_of r (edit c o new old))
    unfolding own edit_own
    edit-areas = replaced (edit c o new old) refl s refl (on_step r m w (Call.edit (length new) (length old)) Stores
        (row (Kept Stores) r (λ why k i. never i) (edit_bars r (length new) (length old)) (λ f k i. (refl, refl))))

    pub report-structure-areas : (k : ℕ) (x : Outcome) → refused (leaves_of r (report (structured c o new old) k x)).told.class ≡ false →
        Stages new old (leaves_of r (report (structured c o new old) k x))
    unfolding own report_structure_own structure_done advanced
    report-structure-areas k x =
        replaced (report (structured c o new old) k x) refl s refl (on_step r m w (Call.report (Report.structured (length new) (length old)) k x) Stores
        (past Stores r (λ why g k i. never i) (report_structure_bars r k (length new) (length old)) refl (λ y.
        outcomes Stores x (λ a vs n k i. (refl, refl)) (by Stores _ (λ b k i. on_keeps _ _) (λ b k i. on_keeps _ _)))))

-- the table that a report is lent, whether it is refused or not
module _ (r : Record) (t : List ℕ) (k : ℕ) (x : Outcome) (value : ℕ) where
  identified : {v : Leaves} (i : ℕ) → (refused v.told.class ≡ true → v.lent ≡ t ∷ []) →
      (refused v.told.class ≡ false → v.lent ≡ stored i value t ∷ []) → SameIdentities t v
  identified {v} i f g = record { identities = λ j. test (refused v.told.class) (λ e. rw (f e)) (λ e. rw (g e) (stored_identities t i value j)) }

  pub update_identities : SameIdentities t (leaves_of r (report (updated t value) k x))
  update_identities = let l = lends r (report {logged = false} (updated t value) k x) refl in identified r.applied l.stays l.moves

  pub rollback_identities : SameIdentities t (leaves_of r (report (rolledBack t value) k x))
  rollback_identities = let l = lends r (report {logged = false} (rolledBack t value) k x) refl in identified (r.entries - 1) l.stays l.moves
