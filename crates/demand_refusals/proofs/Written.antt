-- Of the refusals, exactly an ask's 4 and 5 are written, and then the log's head is sound. Assumes nothing.
use Prim.Native.Nat.{ℕ}
use mathlib.Core.Path.{◌≡◌, refl, sym, ◌∙◌, ap}
use mathlib.Core.Bool.{Bool, true, false}
use mathlib.Core.List.{List}
use lib.Dec.{eqb}
use borrow.Author.Tests.{eqb-true}
use Rattle.choice.specs.Pick.{pick, ◌and◌, ◌or◌}
use Rattle.choice.proofs.Picks.{yes}
use Rattle.choice.proofs.Tests.{never, neither, and_true, test}
use Rattle.answers.specs.Classes.{Class, number_of, refused, step_written, call_written}
use Rattle.answers.specs.Classes as Classes
use Rattle.answers.specs.Classes.Class.{performed, refusal, stepping}
use Rattle.record.specs.declared.Record.{Record}
use Rattle.log_layout.specs.Kinds.{asks, reports}
use Rattle.calls.specs.Calls.{Call, AnyCall, step_with, step_of}
use Rattle.calls.specs.Kinds.{no_kind, kind_of, kind_of_any, written_as}
use Rattle.calls.proofs.Written.{turns}
use Rattle.demand_refusals.specs.Rows.{among}
use Rattle.demand_refusals.specs.Refusals.{numbers_of}
use Rattle.demand_refusals.specs.Through.{entered}
use Rattle.demand_refusals.proofs.OneRow.{unlisted}
use Rattle.demand_refusals.proofs.Refusals.{spoken}
use Rattle.demand_refusals.proofs.ExactRefusals.{listed_answer}

-- of what asks and reports are refused, 4 and 5 are written, and of what other calls are, nothing
refused_step : (c : Class) → refused c ≡ true → step_written c ≡ eqb (number_of c) 4 or eqb (number_of c) 5
unfolding Classes.refusal_written
refused_step performed h = never (sym h)
refused_step (refusal why) h = refl
refused_step (stepping s) h = never (sym h)

refused_call : (c : Class) → refused c ≡ true → call_written c ≡ false
refused_call performed h = never (sym h)
refused_call (refusal why) h = refl
refused_call (stepping s) h = never (sym h)

-- by the kind: whether there is none, whether it is an ask's, whether it is a report's; w whether the answer is 4 or 5
by_kind : (none ask report w : Bool) → (none ≡ true → ask ≡ false) → (report ≡ true → w ≡ false)
    → pick none false (pick (ask or report) w false) ≡ ask and w
unfolding pick ◌and◌ ◌or◌
by_kind true true report w e q = never (e refl)
by_kind true false report w e q = refl
by_kind false true report w e q = refl
by_kind false false true w e q = q refl
by_kind false false false w e q = refl

no_ask : (k : ℕ) → eqb k no_kind ≡ true → asks k ≡ false
unfolding ◌or◌
no_ask k e = ap asks (eqb-true k no_kind e)

-- a number that is listed is neither of two that are not, where the test r holds
neither_of : (n a b : ℕ) (ns : List ℕ) (r : Bool) → among n ns ≡ true → (among a ns or among b ns) and r ≡ false → r ≡ true
    → eqb n a or eqb n b ≡ false
unfolding ◌and◌ ◌or◌
neither_of n a b ns r l q h =
    let p = neither (and_true _ ∙ rw h at q) in
    simp (unlisted n a ns l p.0, unlisted n b ns l p.1)

-- a refusal is written exactly if it is an ask's 4 or 5
pub noted : (sized sound : Bool) (r : Record) (c : AnyCall) → refused (step_of sized sound r c).class ≡ true
    → written_as (kind_of_any c) (step_of sized sound r c).class ≡ entered (kind_of_any c) (step_of sized sound r c).number
unfolding written_as entered
noted sized sound r c h =
    let t = step_of sized sound r c in
    let s = spoken sized sound r c in
    let k = kind_of_any c in
    let w : step_written t.class ≡ eqb t.number 4 or eqb t.number 5 = rw s.0.named (refused_step t.class h) in
    rw (w, refused_call t.class h)
    (by_kind (eqb k no_kind) (asks k) (reports k) _ (no_ask k) (neither_of _ 4 5 (numbers_of c) (reports k) (listed_answer sized sound r c) s.2))

-- a call of no kind is not written
pub no_kind_lem : (k : ℕ) (c : Class) → eqb k no_kind ≡ true → written_as k c ≡ false
unfolding written_as
no_kind_lem k c e = sym (yes _ e refl)

-- what is written is written on a sound head
pub written_sound : (sized sound : Bool) (r : Record) (c : Call) → written_as (kind_of c) (step_with sized sound r c).class ≡ true → sound ≡ true
written_sound sized sound r c w = ((turns r c (test _ (λ e. never (sym w ∙ no_kind_lem _ _ e)) (λ e. e)) sized sound).lent w).1
