-- The engine follows the record through the asks for a rollback. Assumes nothing.
use Prim.Native.Nat.{ℕ, ◌+◌, ◌-◌}
use mathlib.Core.Path.{◌≡◌, refl, sym, ◌∙◌, ap}
use mathlib.Core.Bool.{Bool, true, false}
use native.Mathlib.Omega.{arith}
use lib.Dec.{eqb, leb, ltb}
use borrow.Author.Tests.{leb-true}
use Rattle.choice.specs.Pick.{pick, ◌and◌, ◌or◌}
use Rattle.choice.proofs.Picks.{picked, yes, no}
use Rattle.choice.proofs.Tests.{never, both, test}
use Rattle.answers.specs.declared.Answer.TheVariants.{Finished}
use Rattle.answers.specs.declared.Refusal.TheVariants.{Worn}
use Rattle.record.specs.Answers.{Told, answer, refuse}
use Rattle.record.specs.Fields.{spent}
use Rattle.record.specs.declared.Record.{Record}
use Rattle.tickets.specs.Live as Live
use Rattle.tickets.specs.declared.Live.TheVariants.{Rollback}
use Rattle.issuing.specs.Issuing as Issuing
use Rattle.step_rollbacks.specs.Rollbacks.{ask_rollback_own, turned}
use Rattle.calls.specs.Calls.Work.{rollback}
use Rattle.calls.specs.Calls.Call.{ask}
use Rattle.demand_steps.specs.Knowing.{Watch}
use Rattle.demand_steps.specs.Watching.{sees}
use Rattle.demand_steps.proofs.Facts.{tests}
use Rattle.demand_steps.proofs.Testing.{ranges}
use Rattle.demand_steps.proofs.Own.{own}
use Rattle.plain.specs.declared.Taken.{Taken}
use Rattle.plain.specs.Taking.{gives, spends, turns, worn, asking, ticketed, takes_rollback, takes}
use Rattle.plain_laws.specs.Known.{known_by}
use Rattle.plain_laws.proofs.Knowing.{Agrees, turning, by_row}
use Rattle.plain_laws.proofs.Knowing as K
use Rattle.plain_laws.proofs.Following.{Follows, stays}
use Rattle.plain_laws.proofs.Asking.{taking, worn_same}

rest : {a b : Bool} → a ≡ true → a and b ≡ false → b ≡ false
unfolding ◌and◌
rest {b = b} h e = ap (λ (c : Bool). c and b) (sym h) ∙ e

-- asking for a rollback, before the undos are over
abbrev turning_to : Record → Told
turning_to r =
    pick (ltb 0 r.attempted and Issuing.worn r) (refuse Worn r)
    (pick (eqb r.attempted 0) (answer Finished (spent (turned 9 r))) (Issuing.issue Rollback (r.attempted - 1) (turned 8 r)))

module _ {t : Taken} {w : Watch} {r : Record} (x : Agrees t w r) where
  -- the next: with something to undo, and with nothing
  turn_some : ltb 0 r.attempted ≡ true → Follows w (ask rollback) (pick (worn t) t (gives Live.rollback (turns t))) (turning_to r)
  unfolding ticketed asking turned sees pick
  turn_some h =
      let F = Follows w (ask rollback) (pick (worn t) t (gives Live.rollback (turns t))) in
      picked F (ltb 0 r.attempted and Issuing.worn r) (λ e. taking (sym (yes _ (worn_same x ∙ (both e).1) refl)) (stays x.same x.holds Worn)) (λ e₁.
      picked F (eqb r.attempted 0) (λ e. absurd (omega tests)) (λ e.
      taking (sym (no _ (worn_same x ∙ rest h e₁) refl)) (record {
        same = ap (turning true) x.same;
        holds = record { counts = x.holds.counts; serial = ap (λ (i : ℕ). i + 1) x.holds.serial; live = refl; closed = λ s v z. never v };
      })))

  turn_none : ltb 0 r.attempted ≡ false → Follows w (ask rollback) (spends (turns t)) (turning_to r)
  unfolding ticketed asking turned sees pick
  turn_none h =
      let F = Follows w (ask rollback) (spends (turns t)) in
      picked F (ltb 0 r.attempted and Issuing.worn r) (λ e. never (sym (both e).0 ∙ h)) (λ e₁.
      picked F (eqb r.attempted 0) (λ e. record {
        same = ap (turning true) x.same;
        holds = record { counts = x.holds.counts; serial = x.holds.serial; live = refl; closed = λ s v z. never v };
      }) (λ e. absurd (omega tests)))

  pub rollback_follows : Follows w (ask rollback) (takes t (ask rollback)) (own r (ask rollback))
  unfolding takes takes_rollback own ask_rollback_own sees pick
  rollback_follows =
      let b = (by_row x).behind in
      let l = (by_row x).left in
      picked (Follows w (ask rollback) (takes t (ask rollback))) (leb 9 r.phase.number)
      (λ e. taking (sym (yes _ (b ∙ e) refl)) (record {
        same = ap (λ (v : Bool). turning v (known_by t)) (K.turned x ∙ (ranges x.good.is_whole.stage).turned.behind (omega (arith, leb-true 9 r.phase.number e))) ∙ ap (turning true) x.same;
        holds = x.holds;
      }))
      (λ e. test (ltb 0 r.attempted) (λ h. taking (sym (no _ (b ∙ e) (yes _ (l ∙ h) refl))) (turn_some h)) (λ h. taking (sym (no _ (b ∙ e) (no _ (l ∙ h) refl))) (turn_none h)))
