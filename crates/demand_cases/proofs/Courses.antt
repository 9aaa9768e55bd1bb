-- Chains of calls from an opening to which the theorems over chains are applied, so that no hypothesis is met by nothing: with a wait,
-- a failure and refusals; ready for commit; being undone, and undone; and a second transaction. Assumes nothing.
use Prim.Native.Nat.{ℕ, ◌+◌}
use mathlib.Core.Path.{◌≡◌, refl, sym}
use mathlib.Core.Bool.{Bool, true, false}
use mathlib.Core.List.{List, [], ◌∷◌, ◌++◌, map}
use mathlib.Core.Logic.{◌≢◌}
use native.Mathlib.Omega.{arith}
use Rattle.choice.proofs.Tests.{never, eqb_ne}
use Rattle.areas.specs.Areas.{area_size}
use Rattle.record.specs.Fields.{top}
use Rattle.record.specs.Given.{at, beginning, standing}
use Rattle.record.specs.declared.Record.{Record}
use Rattle.record.specs.declared.Outcome.TheVariants.{Waiting, Failed, Done}
use Rattle.step_opens.specs.Opening.{open_step}
use Rattle.calls.specs.Calls.{Call}
use Rattle.calls.specs.Calls.Work.{structure, update, rollback}
use Rattle.calls.specs.Calls.Report.{structured, updated, rolledBack}
use Rattle.calls.specs.Calls.Call.{begin, ask, report, edit, commit, recover, recover_retained}
use Rattle.demand_chains.specs.Sending.{Sent, plainly}
use Rattle.demand_steps.specs.Typed.{Typed}
use Rattle.demand_steps.specs.Knowing.Item.{settle, apply, undo}
use Rattle.demand_chains.specs.Plans.{due}
use Rattle.demand_chains.specs.Promises.{Asking}
use Rattle.demand_chains.proofs.OneDue.{one_due}
use Rattle.demand_chains.proofs.Theorems.{staged_known}
use Rattle.demand_cases.proofs.Computing.{called, performs, grants, reached, numbers, start, opens, now, seen, demand}

-- only one asking is due: the one that is granted
due_grants : (ss : List Sent) (c : Call) → Typed (standing (now ss)) → (now ss).serial ≢ top → due (now ss) c ≡ true → Asking (now ss)
    → grants (now ss) c ≡ true
unfolding now
due_grants ss c m s d a = rw (one_due (now ss) c a.call m (staged_known true (at 7 0 2) 3 (omega arith) opens ss).1 d a.is_due) (a.is_granted s)

-- the structure work of one phase
abbrev pub settles : ℕ → List Sent
settles ticket = map plainly (ask structure ∷ report (structured 2 2) ticket Done ∷ [])

-- just begun: nothing is done yet, commit is refused and the first asking granted
abbrev pub begun : List Sent
begun = plainly (begin true (beginning 2 2 2)) ∷ []

pub begun_met : ((seen begun).done ≡ []) × (performs (now begun) commit ≡ false) × (grants (now begun) (ask structure) ≡ true)
unfolding now seen due
begun_met =
    let f = (demand begun).commit_exactly refl refl in
    let a = (demand begun).never_locked refl (λ t. eqb_ne _ _ refl) (λ t. never (sym t)) in
    (f.order, f.exact, due_grants begun (ask structure) (omega arith) (eqb_ne _ _ refl) refl a)

-- ready for commit: all 5 + 2 reports, in the fixed order; a wait counts for nothing
abbrev pub ahead : List Sent
ahead =
    begun ++ settles 1 ++ settles 2 ++ settles 3 ++ settles 4
    ++ map plainly (ask update ∷ report updated 5 Waiting ∷ ask update ∷ report updated 6 Done ∷ ask update ∷ report updated 7 Done ∷ []) ++ settles 8

pub ahead_met : ((seen ahead).done ≡ settle 1 ∷ settle 2 ∷ settle 3 ∷ settle 4 ∷ apply 0 ∷ apply 1 ∷ settle 6 ∷ []) × (performs (now ahead) commit ≡ true)
unfolding now seen
ahead_met = let f = (demand ahead).commit_exactly refl refl in (f.order, f.exact)

-- by whether what is lent has the right size, and the log that it goes through a sound head, and is full
abbrev lent : Call → Bool → Bool → Bool → Sent
lent c sized sound full = record { call = c; sized = sized; sound = sound; full = full }

-- a failure, a wait, and refusals: 6, 7 and 12 of what is lent, and then 1, 4, 5, 10, 15 and, where both payloads are long, 14
abbrev pub rough : List Sent
rough =
    begun ++ map plainly (ask structure ∷ report (structured 2 2) 1 (Failed 9) ∷ ask structure ∷ report (structured 2 2) 2 Waiting ∷ [])
    ++ lent (report (structured 2 2) 2 Done) false true false ∷ lent (ask structure) true false false ∷ lent (ask structure) true true true
    ∷ map plainly (begin true (beginning 2 2 2) ∷ commit ∷ ask update ∷ report (structured 2 2) 2 Done ∷ edit 2 (area_size + 1)
    ∷ edit (area_size + 1) (area_size + 1) ∷ [])

-- none of it counts, and the due asking is granted
pub rough_met : (numbers start rough ≡ 0 ∷ 20 ∷ 22 ∷ 20 ∷ 21 ∷ 6 ∷ 7 ∷ 12 ∷ 1 ∷ 4 ∷ 5 ∷ 10 ∷ 15 ∷ 14 ∷ [])
    × ((seen rough).done ≡ []) × (performs (now rough) commit ≡ false) × (grants (now rough) (ask structure) ≡ true)
unfolding now seen numbers due
rough_met =
    let f = (demand rough).commit_exactly refl refl in
    let a = (demand rough).never_locked refl (λ t. eqb_ne _ _ refl) (λ t. never (sym t)) in
    (refl, f.order, f.exact, due_grants rough (ask structure) (omega arith) (eqb_ne _ _ refl) refl a)

-- half undone: one of two undos, so that both recoveries are refused and the next undo is due
abbrev pub back : List Sent
back =
    map plainly (begin false (beginning 2 2 3) ∷ ask update ∷ report updated 1 Done ∷ ask update ∷ report updated 2 Waiting
    ∷ ask rollback ∷ report rolledBack 3 Done ∷ [])

pub back_met : ((seen back).undone ≡ undo 1 ∷ []) × (performs (now back) recover_retained ≡ false)
    × ((n : ℕ) → (called (now back) (recover n)).number ≡ 4) × (grants (now back) (ask rollback) ≡ true)
unfolding now seen due
back_met =
    let b = (demand back).recovery_exactly refl refl in
    let r = (demand back).recovery_back refl refl in
    let a = (demand back).never_locked refl (λ t. never t) (λ t. eqb_ne _ _ refl) in
    (b.order, b.exact, r.given, due_grants back (ask rollback) (omega arith) (eqb_ne _ _ refl) refl a)

-- all undone: a structural transaction of two updates, rolled back with one started: 1 + 4 reports, and both recoveries succeed
abbrev pub undone : List Sent
undone =
    begun ++ settles 1 ++ settles 2 ++ settles 3 ++ settles 4
    ++ map plainly (ask update ∷ ask rollback ∷ report rolledBack 6 Done ∷ []) ++ settles 7 ++ settles 8 ++ settles 9 ++ settles 10

pub undone_met : ((seen undone).undone ≡ undo 0 ∷ settle 9 ∷ settle 10 ∷ settle 11 ∷ settle 12 ∷ [])
    × (performs (now undone) recover_retained ≡ true)
    × ((called (now undone) (recover area_size)).number ≡ 0) × ((called (now undone) (recover (area_size + 1))).number ≡ 16)
unfolding now seen
undone_met =
    let b = (demand undone).recovery_exactly refl refl in
    let r = (demand undone).recovery_back refl refl in
    (b.order, b.exact, r.given area_size, r.given (area_size + 1))

-- an update-only transaction of two updates, ready for commit after 2 reports, with a failure; t is its first ticket
abbrev pub updates : ℕ → List Sent
updates t =
    map plainly (begin false (beginning 2 2 2) ∷ ask update ∷ report updated t (Failed 9) ∷ ask update ∷ report updated (t + 1) Done
    ∷ ask update ∷ report updated (t + 2) Done ∷ [])

pub updates_met : ((seen (updates 1)).done ≡ apply 0 ∷ apply 1 ∷ []) × (performs (now (updates 1)) commit ≡ true)
unfolding now seen
updates_met = let f = (demand (updates 1)).commit_exactly refl refl in (f.order, f.exact)

-- committed, and a second one like it: the counts start anew, and the revision is 7 plus one commit, and then 7 plus two
abbrev pub again : List Sent
again = updates 1 ++ plainly commit ∷ updates 4

pub again_met : ((seen again).done ≡ apply 0 ∷ apply 1 ∷ []) × (performs (now again) commit ≡ true)
    × ((now again).revision ≡ 8) × ((now (again ++ plainly commit ∷ [])).revision ≡ 9)
unfolding now seen
again_met =
    let f = (demand again).commit_exactly refl refl in
    (f.order, f.exact, (demand again).revision_law, (demand (again ++ plainly commit ∷ [])).revision_law)

-- at the maximum of the serial the due asking is answered Worn: the exception is needed
abbrev worn : Record
worn = reached (open_step true (at 7 top 0) 3).state (plainly (begin true (beginning 2 2 0)) ∷ [])

pub worn_met : (due worn (ask structure) ≡ true) × ((called worn (ask structure)).number ≡ 11)
unfolding reached due
worn_met = (refl, refl)
