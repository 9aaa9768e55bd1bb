-- An asking that is answered with a ticket leaves it live, so that its Done report is taken. Assumes nothing.
use Prim.Native.Nat.{ℕ, ◌+◌, ◌≤◌}
use mathlib.Core.Path.{◌≡◌, refl, sym, ◌∙◌, ap, subst}
use mathlib.Core.Bool.{Bool, true, false, not}
use mathlib.Core.List.{[]}
use native.Mathlib.Omega.{arith}
use lib.ListN.{get_or}
use borrow.Author.Tests.{eq-eqb, not-true}
use Rattle.choice.specs.Pick.{pick, ◌and◌}
use Rattle.choice.proofs.Picks.{picked, each}
use Rattle.choice.proofs.Tests.{never, test}
use Rattle.areas.specs.Areas.{area_size}
use Rattle.answers.specs.Classes.{ticketed, taken}
use Rattle.answers.specs.Answers.{Said, says}
use Rattle.record.specs.Answers.{Told, said_of}
use Rattle.tickets.specs.Live.{is_live}
use Rattle.record.specs.declared.Record.{Record}
use Rattle.tickets.specs.declared.Live.{Live}
use Rattle.tickets.specs.declared.Live.TheVariants.{Structure, Update, Rollback}
use Rattle.record.specs.declared.Outcome.TheVariants.{Done}
use Rattle.record.specs.Given.{standing}
use Rattle.answers.specs.declared.Answer.TheVariants as A
use Rattle.wholeness.specs.Whole.{whole}
use Rattle.gates.proofs.Passing.{payloads_pass}
use Rattle.step_asks.specs.Asks.{ask_structure_own, ask_update_own}
use Rattle.step_rollbacks.specs.Rollbacks.{ask_rollback_own, turned}
use Rattle.reporting.specs.Reporting.{reported}
use Rattle.step_structure.specs.Structure.{structure_done, report_structure_own}
use Rattle.step_updates.specs.Updates.{update_done, report_update_own}
use Rattle.step_undos.specs.Undos.{rollback_done, report_rollback_own}
use Rattle.calls.specs.Calls.{Call, step}
use Rattle.calls.specs.Calls.Work.{structure, update, rollback}
use Rattle.calls.specs.Calls.Report.{structured, updated, rolledBack}
use Rattle.calls.specs.Calls.Call.{ask, report}
use Rattle.demand_steps.specs.Typed.{Typed}
use Rattle.demand_chains.specs.Progress.{DoneReport}
use Rattle.demand_chains.specs.Progress.DoneReport.{for_structure, for_update, for_rollback}
use Rattle.demand_steps.proofs.Own.{own, whole_step, damaged_step}
use Rattle.demand_steps.proofs.Facts.{Whole}
use Rattle.demand_chains.proofs.Chain.{undamaged, whole_kept}
use Rattle.demand_chains.proofs.Granting.{clash}
use Rattle.demand_chains.proofs.OneDue.{Due}

-- the ticket of such an answer, "serial plus one", is live
record Issues (live : ℕ → Live) (r : Record) (x : Told) : Type 0 where
  is_live : ticketed x.class ≡ true → x.state.live ≡ live (get_or x.values 0 0)
  carries : ticketed x.class ≡ true → said_of x ≡ says (A.Ticket (r.serial + 1) (get_or x.values 1 0))
  raises : ticketed x.class ≡ true → x.state.serial ≡ r.serial + 1

other : {live : ℕ → Live} {r : Record} {x : Told} → ticketed x.class ≡ false → Issues live r x
other h = record { is_live = λ e. clash _ e h; carries = λ e. clash _ e h; raises = λ e. clash _ e h }

-- behind three tests
last : {live : ℕ → Live} {r : Record} {x y z v : Told} (b c d : Bool) → Issues live r x → Issues live r y → Issues live r z → Issues live r v →
    Issues live r (pick b x (pick c y (pick d z v)))
last {live} {r} b c d p q i j = let P : Told → Type 0 = Issues live r in each P b p (each P c q (each P d i j))

module _ (r : Record) where
  structure_issues : Issues Structure r (ask_structure_own r)
  unfolding ask_structure_own
  structure_issues = last _ _ _ (other refl) (other refl) (other refl) (record { is_live = λ e. refl; carries = λ e. refl; raises = λ e. refl })

  update_issues : Issues Update r (ask_update_own r)
  unfolding ask_update_own
  update_issues = last _ _ _ (other refl) (other refl) (other refl) (record { is_live = λ e. refl; carries = λ e. refl; raises = λ e. refl })

  rollback_issues : Issues Rollback r (ask_rollback_own r)
  unfolding ask_rollback_own turned
  rollback_issues = last _ _ _ (other refl) (other refl) (other refl) (record { is_live = λ e. refl; carries = λ e. refl; raises = λ e. refl })

-- a report of the live ticket of its kind, Done, is answered Finished or More
abbrev Takes : Told → Type 0
Takes x = taken x.class ≡ true

module _ (r : Record) (t : ℕ) where
  -- behind its first refusal, "10"
  live : (k : ℕ) (x y : Told) → is_live k t r.live ≡ true → Takes y → Takes (pick (not (is_live k t r.live)) x y)
  live k x y e p = picked Takes _ (λ i. clash _ e (not-true _ i)) (λ i. p)

  takes_structure : (c o : ℕ) → r.live ≡ Structure t → c ≤ area_size → o ≤ area_size → Takes (own r (report (structured c o) t Done))
  unfolding own report_structure_own reported structure_done is_live ◌and◌
  takes_structure c o e p q =
      live _ _ _ (rw e (eq-eqb t t refl)) (subst Takes (sym (payloads_pass [] r _ p q)) (each Takes _ refl refl))

  takes_update : r.live ≡ Update t → Takes (own r (report updated t Done))
  unfolding own report_update_own reported update_done is_live ◌and◌
  takes_update e = live _ _ _ (rw e (eq-eqb t t refl)) (each Takes _ refl refl)

  takes_rollback : r.live ≡ Rollback t → Takes (own r (report rolledBack t Done))
  unfolding own report_rollback_own reported rollback_done is_live ◌and◌
  takes_rollback e = live _ _ _ (rw e (eq-eqb t t refl)) (each Takes _ refl refl)

-- after the asking, the record is whole and its ticket live; only a whole record gives one
record Issued (live : Live) (r : Record) : Type 0 where
  is_whole : whole r ≡ true
  is_live : r.live ≡ live

issued : (live : ℕ → Live) (r : Record) (c : Call) (t i : ℕ) → Typed (standing r) → Issues live r (own r c) → said_of (step r c) ≡ says (A.Ticket t i) →
    Issued (live t) (step r c).state
issued live r c t i m f h =
    let n : ticketed (step r c).class ≡ true = ap (λ (s : Said). ticketed s.class) h in
    test (whole r) (λ w. record {
      is_whole = (whole_kept r c m w).0;
      is_live = rw (whole_step r c w) (f.is_live (rw (whole_step r c w) at n)) ∙ ap (λ (s : Said). live (get_or s.values 0 0)) h;
    })
    (λ w. never (sym (rw (damaged_step r c w) at n)))

-- an asking answered with ticket t, then its report of t with Done and payloads of at most 4,096 bytes, is taken
pub done_taken : (r : Record) (c d : Call) (t i : ℕ) → Typed (standing r) → said_of (step r c) ≡ says (A.Ticket t i) → DoneReport t c d →
    taken (step (step r c).state d).class ≡ true
unfolding own
done_taken r c d t i m h (for_structure {candidate = x} {recovery = y} p q) =
    let a = issued Structure r (ask structure) t i m (structure_issues r) h in
    rw (whole_step _ (report (structured x y) t Done) a.is_whole) (takes_structure _ t x y a.is_live p q)
done_taken r c d t i m h for_update =
    let a = issued Update r (ask update) t i m (update_issues r) h in
    rw (whole_step _ (report updated t Done) a.is_whole) (takes_update _ t a.is_live)
done_taken r c d t i m h for_rollback =
    let a = issued Rollback r (ask rollback) t i m (rollback_issues r) h in
    rw (whole_step _ (report rolledBack t Done) a.is_whole) (takes_rollback _ t a.is_live)

-- the ticket that a due asking is answered with, and a report of it
pub record Ticket (r : Record) (c : Call) : Type 0 where
  pub number : ℕ
  pub item : ℕ
  pub report : Call
  pub answered : said_of (step r c) ≡ says (A.Ticket number item)
  pub raised : (step r c).state.serial ≡ r.serial + 1
  pub is_done : DoneReport number c report

module _ {r : Record} (w : Whole r) where
  ticket : {live : ℕ → Live} (c d : Call) → Issues live r (own r c) → ticketed (step r c).class ≡ true → DoneReport (r.serial + 1) c d → Ticket r c
  ticket {live} c d f n q =
      let x : Issues live r (step r c) = rw (undamaged c w) f in
      record { number = r.serial + 1; item = get_or (step r c).values 1 0; report = d; answered = x.carries n; raised = x.raises n; is_done = q }

  pub ticket_of : {c : Call} → Due r c → ticketed (step r c).class ≡ true → Ticket r c
  unfolding own
  ticket_of (Due.settle y) n = ticket (ask structure) (report (structured 0 0) (r.serial + 1) Done) (structure_issues r) n (for_structure (omega arith) (omega arith))
  ticket_of (Due.apply u v) n = ticket (ask update) (report updated (r.serial + 1) Done) (update_issues r) n for_update
  ticket_of (Due.undo v m) n = ticket (ask rollback) (report rolledBack (r.serial + 1) Done) (rollback_issues r) n for_rollback
