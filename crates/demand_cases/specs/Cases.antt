-- Document 01, "Cases on each side", with P1 and P12 as request 3 has them: P1 to P12, each a record to start from and what the calls
-- on it answer. Assumes nothing.
use Rattle.std.specs.Prelude.{ℕ, Bool, true, false, ◌&&◌, List, [], ◌∷◌, ◌++◌, eqb, Ok}
use Rattle.phases.specs.Phases.{none, recover_remove}
use Rattle.record.specs.Fields.{top}
use Rattle.answers.specs.Answers.{Said, says}
use Rattle.record.specs.Answers.{Told}
use Rattle.record.specs.Given.{at, beginning}
use Rattle.record.specs.declared.Record.{Record}
use Rattle.record.specs.declared.Outcome.TheVariants as O
use Rattle.answers.specs.declared.Answer.TheVariants.{Done, Refused, Ticket, Waiting, More, Finished}
use Rattle.answers.specs.declared.Was.TheVariants.{Nothing, Three}
use Rattle.answers.specs.declared.Refusal.TheVariants.{Capacity, NotReady, Recovering, Damaged, Stale}
use Rattle.step_opens.specs.Opening.{opening, open_step}
use Rattle.step_begins.specs.Beginning.{begun}
use Rattle.step_stamps.specs.Stamping.{says_stamping, says_checked}
use Rattle.step_stamps.specs.declared.SaveStamp.{SaveStamp}
use Rattle.calls.specs.Calls.{Call, step}
use Rattle.calls.specs.Calls.Work.{structure, update, rollback}
use Rattle.calls.specs.Calls.Report.{structured, updated, rolledBack}
use Rattle.calls.specs.Calls.Call.{begin, ask, report, commit, recover, stamp, check}

-- a call with what it must answer, or a look at the record
infixr 25 ◌⇒◌
pub data Line : Type 0 where
  ◌⇒◌ : Call → Said → Line
  looks : (Record → Bool) → Line

pub record Case : Type 0 where
  pub start : Record
  pub lines : List Line

abbrev pub same_values : List ℕ → List ℕ → Bool
same_values [] [] = true
same_values [] (y ∷ ys) = false
same_values (x ∷ xs) [] = false
same_values (x ∷ xs) (y ∷ ys) = eqb x y && same_values xs ys

abbrev pub answers : Told → Said → Bool
answers t s = eqb t.number s.number && same_values t.values s.values

-- every line holds, each call given the record that the last left
abbrev pub plays : Record → List Line → Bool
plays r [] = true
plays r ((c ⇒ s) ∷ ls) = answers (step r c) s && plays (step r c).state ls
plays r (looks look ∷ ls) = look r && plays r ls

abbrev pub done : Said
done = says (Done Nothing)

-- "stamp (3, 7)", which "gains the third number"
abbrev pub taken : SaveStamp
taken = record { domain = 3; revision = 7; replacements = 2 }

-- structure work of one phase: a ticket for it, and Done
abbrev pub phase : ℕ → ℕ → Said → List Line
phase ticket p last = (ask structure ⇒ says (Ticket ticket p)) ∷ (report (structured 2 2) ticket O.Done ⇒ last) ∷ []

-- "structural ..: More thrice, Finished": the phases 1 to 4
abbrev pub mounted : List Line
mounted = phase 1 1 (says More) ++ phase 2 2 (says More) ++ phase 3 3 (says More) ++ phase 4 4 (says Finished)

abbrev pub case : Record → List Line → Case
case r ls = record { start = r; lines = ls }

unfoldable pub cases : List Case
cases =
    -- P1 opened at 7 with 2 replacements, domain 3: stamp (3, 7, 2)
    case (open_step true (at 7 0 2) 0).state ((stamp 3 ⇒ says_stamping (Ok taken)) ∷ [])
    -- P2 idle at the u64 maximum: begin 3
    ∷ case (opening (at top 0 0) 0) ((begin false (beginning 0 0 0) ⇒ says (Refused Capacity)) ∷ [])
    -- P3 staged at that revision: 7
    ∷ case (begun none (beginning 0 0 0) (opening (at top 0 0) 0)) ((commit ⇒ says (Refused Damaged)) ∷ [])
    -- P4 update-only, 0 actions: commit at once
    ∷ case (opening (at 0 0 0) 3) ((begin false (beginning 2 2 0) ⇒ done) ∷ (commit ⇒ says (Done (Three 3 2 0))) ∷ looks (λ r. eqb r.revision 1) ∷ [])
    -- P5 the same: recover at once, revision kept
    ∷ case (opening (at 0 0 0) 3) ((begin false (beginning 2 2 0) ⇒ done) ∷ (recover 4 ⇒ says (Done (Three 3 2 2))) ∷ looks (λ r. eqb r.revision 0) ∷ [])
    -- P6 structural, 0 actions: More thrice, Finished, ask update Finished, Adopt Finished, commit
    ∷ case (opening (at 0 0 0) 3)
    ((begin true (beginning 2 2 0) ⇒ done) ∷ mounted ++ (ask update ⇒ says Finished) ∷ phase 5 6 (says Finished) ++ (commit ⇒ says (Done (Three 3 2 0))) ∷ [])
    -- P7 structural, 2 actions, rollback at Mount: Finished, phase 9, then More thrice, Finished
    ∷ case (opening (at 0 0 0) 0)
    ((begin true (beginning 2 2 2) ⇒ done) ∷ phase 1 1 (says More) ++ phase 2 2 (says More) ++ (ask rollback ⇒ says Finished)
    ∷ looks (λ r. eqb r.phase.number recover_remove)
    ∷ phase 3 9 (says More) ++ phase 4 10 (says More) ++ phase 5 11 (says More) ++ phase 6 12 (says Finished))
    -- P8 update-only, 3 actions, Done, Waiting, ask rollback: entries 2, ticket for number 1; Done More, Done Finished
    ∷ case (opening (at 0 0 0) 0)
    ((begin false (beginning 2 2 3) ⇒ done) ∷ (ask update ⇒ says (Ticket 1 0)) ∷ (report updated 1 O.Done ⇒ says More) ∷ (ask update ⇒ says (Ticket 2 1))
    ∷ (report updated 2 O.Waiting ⇒ says Waiting) ∷ (ask rollback ⇒ says (Ticket 3 1)) ∷ looks (λ r. eqb r.entries 2)
    ∷ (report rolledBack 3 O.Done ⇒ says More) ∷ (ask rollback ⇒ says (Ticket 4 0)) ∷ (report rolledBack 4 O.Done ⇒ says Finished) ∷ [])
    -- P9 serial 0, asked twice: ticket 1 Stale, 2 taken
    ∷ case (opening (at 0 0 0) 0)
    ((begin false (beginning 0 0 1) ⇒ done) ∷ (ask update ⇒ says (Ticket 1 0)) ∷ (ask update ⇒ says (Ticket 2 0)) ∷ (report updated 1 O.Done ⇒ says (Refused Stale))
    ∷ (report updated 2 O.Done ⇒ says Finished) ∷ [])
    -- P10 ask structure: 4 in phase 5, Finished in 7
    ∷ case (opening (at 0 0 0) 0)
    ((begin true (beginning 2 2 0) ⇒ done) ∷ mounted ++ (ask structure ⇒ says (Refused NotReady)) ∷ (ask update ⇒ says Finished)
    ∷ phase 5 6 (says Finished) ++ (ask structure ⇒ says Finished) ∷ [])
    -- P11 idle rollback Finished, then ask update 5
    ∷ case (opening (at 0 0 0) 0) ((ask rollback ⇒ says Finished) ∷ (ask update ⇒ says (Refused Recovering)) ∷ [])
    -- P12 stamp, update-only begin without actions, recover: "turned round", the stamp fails
    ∷ case (opening (at 7 0 2) 3)
    ((stamp 3 ⇒ says_stamping (Ok taken)) ∷ (begin false (beginning 2 2 0) ⇒ done) ∷ (recover 4 ⇒ says (Done (Three 3 2 2))) ∷ (check 3 taken ⇒ says_checked (Ok false)) ∷ [])
    ∷ []

abbrev pub hold_all : List Case → Bool
hold_all [] = true
hold_all (c ∷ cs) = plays c.start c.lines && hold_all cs
