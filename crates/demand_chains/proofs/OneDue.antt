-- On a whole record at most one asking is due. Assumes nothing.
use Prim.Native.Nat.{ℕ, ◌<◌}
use mathlib.Core.Path.{◌≡◌, refl, sym}
use mathlib.Core.Bool.{true, false}
use borrow.Author.Tests.{eqb-true, ltb-true, not-true}
use Rattle.choice.proofs.Tests.{never, both, either}
use Rattle.record.specs.declared.Record.{Record}
use Rattle.record.specs.Given.{standing}
use Rattle.wholeness.specs.Whole.{whole}
use Rattle.calls.specs.Calls.{Call}
use Rattle.calls.specs.Calls.Work.{structure, update, rollback}
use Rattle.calls.specs.Calls.Call.{begin, ask, report, edit, commit, recover, recover_retained, refresh, stamp, check}
use Rattle.demand_steps.specs.Typed.{Typed}
use Rattle.demand_chains.specs.Plans.{due}
use Rattle.demand_steps.proofs.Leaf.{Apart, Updates}
use Rattle.demand_steps.proofs.Facts.{Whole, tests}
use Rattle.demand_steps.proofs.Reading.{apart_of, whole_facts}
use Rattle.demand_steps.proofs.Testing.{ranges}
use Rattle.demand_steps.proofs.Moves.{Undo, in_undo}

-- which asking is due, with what that says of the record
pub data Due (r : Record) : Call → Type 0 where
  settle : Apart r.phase.number → Due r (ask structure)
  apply : Updates r.phase.number → r.restoring ≡ false → Due r (ask update)
  undo : r.restoring ≡ true → 0 < r.entries → Due r (ask rollback)

pub due_update : {r : Record} → Whole r → due r (ask update) ≡ true → Updates r.phase.number × (r.restoring ≡ false)
unfolding due
due_update w d =
    either d (λ e. (Updates.batch (eqb-true _ _ e), (ranges w.stage).turned.ahead (omega tests) (omega tests)))
    (λ e. let x = both (both e).0 in (Updates.flat (eqb-true _ _ x.0), not-true _ x.1))

pub due_is : (r : Record) → Whole r → (c : Call) → due r c ≡ true → Due r c
unfolding due
due_is r w (ask structure) d = settle (apart_of _ d)
due_is r w (ask update) d = let x = due_update w d in apply x.0 x.1
due_is r w (ask rollback) d = let x = both d in undo x.0 (ltb-true _ _ x.1)
due_is r w (begin structural b) d = never (sym d)
due_is r w (report of t x) d = never (sym d)
due_is r w (edit c o) d = never (sym d)
due_is r w commit d = never (sym d)
due_is r w (recover n) d = never (sym d)
due_is r w recover_retained d = never (sym d)
due_is r w (refresh n) d = never (sym d)
due_is r w (stamp domain) d = never (sym d)
due_is r w (check domain e) d = never (sym d)

-- no phase has two of them
settling : {p : ℕ} {P : Type 0} → Apart p → Updates p → P
settling y (Updates.flat e) = absurd (y.not0 e)
settling y (Updates.batch e) = absurd (y.not5 e)

undoing : {p f b n k : ℕ} {P : Type 0} → Apart p → Undo p f b n k → P
undoing y (Undo.plain e x1 x2 x3) = absurd (y.not0 e)
undoing y (Undo.inside e x1 x2 x3 x4) = absurd (y.not8 e)

one : (r : Record) → Whole r → {c e : Call} → Due r c → Due r e → c ≡ e
one r w (settle y) (settle z) = refl
one r w (settle y) (apply u e) = settling y u
one r w (settle y) (undo e h) = undoing y (in_undo w.stage e h)
one r w (apply u e) (settle y) = settling y u
one r w (apply u e) (apply v d) = refl
one r w (apply u e) (undo d h) = absurd (omega tests)
one r w (undo e h) (settle y) = undoing y (in_undo w.stage e h)
one r w (undo d h) (apply u e) = absurd (omega tests)
one r w (undo e h) (undo d g) = refl

-- "the due asking": two that are due are the same
pub one_due : (r : Record) (c e : Call) → Typed (standing r) → whole r ≡ true → due r c ≡ true → due r e ≡ true → c ≡ e
one_due r c e m h p q = let w = whole_facts r m h in one r w (due_is r w c p) (due_is r w e q)
