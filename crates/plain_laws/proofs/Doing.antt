-- What a Done report that is taken does, to the record and for the engine. Assumes nothing.
use Prim.Native.Nat.{ℕ, ◌+◌, ◌≤◌, ◌<◌}
use mathlib.Core.Path.{◌≡◌, refl, sym, ◌∙◌}
use mathlib.Core.Bool.{true, false}
use mathlib.Core.Logic.{◌≢◌}
use native.Mathlib.Omega.{arith}
use lib.Dec.{leb}
use borrow.Author.Tests.{lt-leb, le-leb}
use Rattle.choice.specs.Pick.{◌or◌}
use Rattle.choice.proofs.Picks.{each}
use Rattle.choice.proofs.Tests.{never}
use Rattle.answers.specs.Classes.StepAnswer.{more, finished}
use Rattle.record.specs.Fields.{adopting, spent}
use Rattle.record.specs.declared.Record.{Record}
use Rattle.record.specs.declared.Outcome.TheVariants.{Done}
use Rattle.tickets.specs.Live as Live
use Rattle.tickets.specs.Live.{is_live}
use Rattle.tickets.specs.declared.Live.{Live}
use Rattle.step_structure.specs.Structure.{advanced, storing, structure_done}
use Rattle.step_updates.specs.Updates.{update_done}
use Rattle.step_undos.specs.Undos.{leaving, rollback_done}
use Rattle.calls.specs.Calls.Report.{structured, updated, rolledBack}
use Rattle.calls.specs.Calls.Call.{report}
use Rattle.demand_steps.specs.Knowing.{Watch}
use Rattle.demand_steps.specs.Watching.{sees}
use Rattle.demand_steps.proofs.Leaf.{Apart}
use Rattle.demand_steps.proofs.Facts.{tests, by_case}
use Rattle.demand_steps.proofs.Testing.{ranges}
use Rattle.demand_steps.proofs.Tickets.{on_update, on_rollback}
use Rattle.demand_steps.proofs.Wholeness.{successor_test}
use Rattle.demand_steps.proofs.Moves.{goes_up, goes_down}
use Rattle.plain.specs.declared.Taken.{Taken}
use Rattle.plain.specs.Taking.{ticketed, counted, spends}
use Rattle.plain_laws.proofs.Knowing.{Holds, Agrees, numbers}
use Rattle.plain_laws.proofs.Knowing as K
use Rattle.plain_laws.proofs.Following.{Follows}
use Rattle.plain_laws.proofs.Counting.{counts}

-- the phases 5 and 6 are not passed
passes : (p : ℕ) → p ≤ 6 → p ≢ 5 → leb 6 p ≡ leb 6 (p + 1)
passes p h e = by_case p 5
    (λ (i : p < 5). lt-leb 6 p (omega arith) ∙ sym (lt-leb 6 (p + 1) (omega arith)))
    (λ (i : 5 ≤ p). le-leb 6 p (omega arith) ∙ sym (le-leb 6 (p + 1) (omega arith)))

module _ {t : Taken} {w : Watch} {r : Record} (x : Agrees t w r) where
  -- structure work: the phase passes neither 5 nor 6 but from 4 to 5 and from 6 to 7
  went_holds : (c o : ℕ) → Apart r.phase.number → Holds (counted (spends t)) (advanced (spent (storing c o r)))
  unfolding counted ticketed
  went_holds c o y =
      let g = ranges x.good.is_whole.stage in
      let s = successor_test r.phase.number g.bound y in
      by_case 6 r.phase.number
      (λ (j : 6 < r.phase.number). rw (goes_down (spent (storing c o r)) s j) (record {
        counts = x.holds.counts;
        serial = x.holds.serial;
        live = refl;
        closed = λ e v z. let i : r.restoring ≡ false = sym (K.turned x) ∙ v in let k = g.turned.behind (omega (arith, y.not7)) in absurd (omega tests);
      }))
      (λ (j : r.phase.number ≤ 6). rw (goes_up (spent (storing c o r)) s j) (record {
        counts = x.holds.counts;
        serial = x.holds.serial;
        live = refl;
        closed = λ e v z. x.holds.closed e v z ∙ passes r.phase.number j y.not5;
      }))

  pub settled_done : (c o ticket : ℕ) → Apart r.phase.number → Follows w (report (structured c o) ticket Done) (counted (spends t)) (structure_done (spent (storing c o r)))
  unfolding structure_done sees
  settled_done c o ticket y =
      let h = went_holds c o y in
      each (Follows w (report (structured c o) ticket Done) (counted (spends t))) _
      (record { same = counts x (structured c o) ticket finished refl; holds = h }) (record { same = counts x (structured c o) ticket more refl; holds = h })

  -- an update that was started is one of those there are, so that there are some
  pub updated_done : (ticket : ℕ) → is_live Live.update ticket r.live ≡ true → Follows w (report updated ticket Done) (counted (spends t)) (update_done (spent r))
  unfolding update_done adopting counted ticketed sees
  updated_done ticket l =
      let o = on_update x.good.is_whole l in
      let m = (numbers x).ahead o.ahead in
      let none : t.size ≡ 0 → ⊥ = λ z. omega (arith, m.size, o.tried, x.good.is_whole.size) in
      each (Follows w (report updated ticket Done) (counted (spends t))) _
      (record { same = counts x updated ticket finished refl; holds = record { counts = x.holds.counts; serial = x.holds.serial; live = refl; closed = λ e v z. absurd (none z) } })
      (record { same = counts x updated ticket more refl; holds = record { counts = x.holds.counts; serial = x.holds.serial; live = refl; closed = λ e v z. absurd (none z) } })

  -- an undo is reported after a granted rollback
  pub undone_done : (ticket : ℕ) → is_live Live.rollback ticket r.live ≡ true → Follows w (report rolledBack ticket Done) (counted (spends t)) (rollback_done (spent r))
  unfolding rollback_done leaving counted ticketed sees
  undone_done ticket l =
      let b = K.turned x ∙ (on_rollback x.good.is_whole l).behind in
      each (Follows w (report rolledBack ticket Done) (counted (spends t))) _
      (record { same = counts x rolledBack ticket finished refl; holds = record { counts = x.holds.counts; serial = x.holds.serial; live = refl; closed = λ e v z. never (sym b ∙ v) } })
      (record { same = counts x rolledBack ticket more refl; holds = record { counts = x.holds.counts; serial = x.holds.serial; live = refl; closed = λ e v z. never (sym b ∙ v) } })
