-- The engine follows the record through the asks for structure work and for updates. Assumes nothing.
use Prim.Native.Nat.{ℕ, ◌+◌, ◌-◌, ◌≤◌, ◌<◌, max}
use mathlib.Core.Path.{◌≡◌, refl, sym, ◌∙◌, ap, subst}
use mathlib.Core.Bool.{Bool, true, false, not}
use native.Mathlib.Omega.{arith}
use lib.Dec.{eqb, leb}
use borrow.Author.Tests.{eqb-true, le-leb, lt-leb, eq-eqb, ne_eqb, not-false}
use Rattle.choice.specs.Pick.{pick, ◌and◌, ◌or◌}
use Rattle.choice.proofs.Picks.{picked, yes, no}
use Rattle.choice.proofs.Tests.{either, neither, join, no_left, no_right}
use Rattle.phases.specs.Phases.{has_successor}
use Rattle.plans.specs.Counts.{lead}
use Rattle.answers.specs.declared.Refusal.TheVariants.{NotReady, Recovering, Worn}
use Rattle.record.specs.Answers.{Told}
use Rattle.record.specs.Fields.{adopting}
use Rattle.record.specs.declared.Record.{Record}
use Rattle.issuing.specs.Issuing as Issuing
use Rattle.step_asks.specs.Asks.{ask_structure_own, ask_update_own}
use Rattle.step_rollbacks.specs.Rollbacks.{turned}
use Rattle.calls.specs.Calls.{Call}
use Rattle.calls.specs.Calls.Work.{structure, update}
use Rattle.calls.specs.Calls.Call.{ask}
use Rattle.demand_steps.specs.Knowing.{Watch}
use Rattle.demand_steps.specs.Watching.{sees}
use Rattle.demand_steps.proofs.Leaf.{Updates}
use Rattle.demand_steps.proofs.Facts.{tests, by_case}
use Rattle.demand_steps.proofs.Testing.{ranges}
use Rattle.demand_steps.proofs.Own.{own}
use Rattle.demand_steps.proofs.Moves.{Batch, choice, in_batch}
use Rattle.demand_chains.proofs.Course.{Kind}
use Rattle.demand_chains.proofs.Course.Kind.{update_only, structural}
use Rattle.demand_steps.proofs.Classify.{open_tests, updates_of}
use Rattle.demand_steps.proofs.Wholeness.{successor_test}
use Rattle.plain.specs.declared.Taken.{Taken}
use Rattle.plain.specs.Plain.{is_updated, is_settling}
use Rattle.plain.specs.Taking.{worn, asking, ticketed, takes_structure, takes_update, takes}
use Rattle.plain_laws.specs.Known.{heard_by}
use Rattle.plain_laws.proofs.Knowing.{Holds, Agrees, starting, knows, numbers, kind, by_row}
use Rattle.plain_laws.proofs.Following.{Follows, stays}

-- phases that a test names have no successor
at : (p x : ℕ) → eqb p x ≡ true → has_successor x ≡ false → has_successor p ≡ false
at p x e h = ap has_successor (eqb-true _ _ e) ∙ h

shut : (p : ℕ) → eqb p 0 or eqb p 5 or eqb p 8 ≡ true → has_successor p ≡ false
unfolding has_successor ◌and◌ ◌or◌
shut p e = either e (λ i. either i (λ j. at p 0 j refl) (λ j. at p 5 j refl)) (λ j. at p 8 j refl)

ended : (p : ℕ) → eqb p 7 or eqb p 13 ≡ true → has_successor p ≡ false
unfolding has_successor ◌and◌ ◌or◌
ended p e = either e (λ j. at p 7 j refl) (λ j. at p 13 j refl)

-- a test and its opposite
crossed : (a b c : Bool) → not a or b ≡ c → a and not b ≡ not c
unfolding ◌and◌ ◌or◌
crossed true b c e = ap not e
crossed false b c e = ap not e

-- updates are asked for in phase 5 of a structural transaction, after four reports, and in phase 0 of another, after none
in_five : {s : Bool} {p : ℕ} → Kind s p → s ≡ true → Updates p → p ≡ 5
in_five k e (Updates.batch h) = h
in_five (structural i y) e (Updates.flat h) = absurd (omega arith)
in_five (update_only i y) e (Updates.flat h) = absurd (omega tests)

led : {s : Bool} {p f b : ℕ} → Kind s p → Batch p f b → f ≡ lead s
led (update_only e y) (Batch.plain h i j) = rw e i
led (structural e y) (Batch.inside h i j) = rw e i
led (update_only e y) (Batch.inside h i j) = absurd (omega arith)
led (structural e y) (Batch.plain h i j) = absurd (omega arith)

-- of at most n, as many as n
full : (l n a : ℕ) → a ≤ n → leb (l + n) (l + a) ≡ eqb a n
full l n a h = by_case a n
    (λ (i : a < n). lt-leb (l + n) (l + a) (omega arith) ∙ sym (ne_eqb a n (λ e. omega arith)))
    (λ (i : n ≤ a). le-leb (l + n) (l + a) (omega arith) ∙ sym (eq-eqb a n (omega arith)))

-- what is taken, by the tests of the definition
pub taking : {w : Watch} {c : Call} {g h : Taken} {y : Told} → g ≡ h → Follows w c h y → Follows w c g y
taking {w} {c} {y = y} e f = subst (λ (q : Taken). Follows w c q y) (sym e) f

module _ {t : Taken} {w : Watch} {r : Record} (x : Agrees t w r) where
  pub worn_same : worn t ≡ Issuing.worn r
  worn_same = rw x.holds.serial

  pub structure_follows : Follows w (ask structure) (takes t (ask structure)) (own r (ask structure))
  unfolding takes takes_structure ticketed own ask_structure_own sees pick
  structure_follows =
      let s = (by_row x).settling in
      let F = Follows w (ask structure) (takes t (ask structure)) in
      picked F _ (λ e. taking (sym (no _ (no_left _ (s ∙ shut _ e)) refl)) (stays x.same x.holds NotReady)) (λ e₁.
      picked F _ (λ e. taking (sym (no _ (no_left _ (s ∙ ended _ e)) refl)) (record { same = x.same; holds = x.holds })) (λ e₂.
      let y = s ∙ successor_test _ (ranges x.good.is_whole.stage).bound (open_tests _ e₁ e₂) in
      picked F _ (λ e. taking (sym (no _ (no_right (is_settling t) (ap not (worn_same ∙ e))) refl)) (stays x.same x.holds Worn)) (λ e.
      taking (sym (yes _ (join y (ap not (worn_same ∙ e))) refl)) (record {
        same = x.same;
        holds = record { counts = x.holds.counts; serial = ap (λ (i : ℕ). i + 1) x.holds.serial; live = refl; closed = x.holds.closed };
      }))))

  module _ (u : Updates r.phase.number) (v : r.restoring ≡ false) where
    led-by : r.forward ≡ lead t.structural
    led-by = led (kind x) (in_batch x.good.is_whole.stage u v)

    pub updated-same : is_updated t ≡ eqb r.applied r.entries
    unfolding is_updated
    updated-same =
        let m = (numbers x).ahead v in
        let c = x.good.is_whole.size in
        rw (m.done, m.size, ← led-by) (full r.forward r.entries r.applied (omega (arith, c)))

    ended-holds : Holds (asking true t.turned t.started t) (adopting r)
    unfolding asking adopting
    ended-holds = record {
      counts = x.holds.counts;
      serial = x.holds.serial;
      live = x.holds.live;
      closed = λ s e z. sym (ap (leb 6) ((choice r.phase.number 5 6 r.phase.number).is (in_five (kind x) s u)));
    }

    started-same : t.done + 1 - lead t.structural ≡ max w.started (r.applied + 1)
    started-same =
        let m = (numbers x).ahead v in
        let c = x.good.is_whole.size in
        omega (arith, m.done, led-by, m.started, (knows x).started, c.near)

  pub update_follows : Follows w (ask update) (takes t (ask update)) (own r (ask update))
  unfolding takes takes_update ticketed asking own ask_update_own sees pick
  update_follows =
      let F = Follows w (ask update) (takes t (ask update)) in
      let q = (by_row x).updating in
      picked F _ (λ e. taking (sym (no _ (q ∙ crossed _ _ _ e) refl)) (stays x.same x.holds Recovering)) (λ e₁.
      let s = neither e₁ in
      let u = updates_of r.phase.number (not-false _ s.0) in
      let up = q ∙ crossed _ _ _ e₁ in
      let all = updated-same u s.1 in
      picked F _ (λ e. taking (sym (yes _ up (yes _ (all ∙ e) refl))) (record {
        same = x.same;
        holds = ended-holds u s.1;
      })) (λ e₂.
      picked F _ (λ e. taking (sym (yes _ up (no _ (all ∙ e₂) (yes _ (worn_same ∙ e) refl)))) (stays x.same x.holds Worn)) (λ e.
      taking (sym (yes _ up (no _ (all ∙ e₂) (no _ (worn_same ∙ e) refl)))) (record {
        same = ap (starting _) x.same ∙ ap (λ (n : ℕ). starting n (heard_by w)) (started-same u s.1);
        holds = record { counts = x.holds.counts; serial = ap (λ (i : ℕ). i + 1) x.holds.serial; live = refl; closed = x.holds.closed };
      }))))
