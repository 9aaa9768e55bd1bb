-- The turns of a replay, as replays has them (replays/specs/Replaying.antt), by a loop's test: an event that is bad or is answered, and where
-- the test fails. Assumes nothing.
use Prim.Native.Nat.{ℕ, ◌+◌, ◌-◌, ◌<◌}
use mathlib.Core.Path.{◌≡◌, refl, sym, ap, ◌∙◌}
use mathlib.Core.Bool.{Bool, true, false, ◌&&◌}
use mathlib.Core.List.{List}
use lib.Dec.{ltb}
use lib.ListN.{set}
use borrow.Author.Tests.{ltb-true, ltb-false}
use Rattle.std.specs.Prelude.{Ok}
use Rattle.choice.specs.Pick.{◌and◌}
use Rattle.choice.proofs.Tests.{both, test, tests}
use Rattle.record.specs.Answers.{Told}
use Rattle.record.specs.declared.Record.{Record}
use Rattle.log_layout.specs.Log.{count}
use Rattle.calls.specs.Calls.{step}
use Rattle.input_events.specs.declared.Event.{Event}
use Rattle.input_events.specs.Events.{event_at, bad}
use Rattle.input_events.specs.Meaning.{meant}
use Rattle.replays.specs.Replaying.{standing, stopped, run}
use Rattle.replays.proofs.Turns as turns

pub at_bad : (n : ℕ) (l : List ℕ) (r : Record) (at ran : ℕ) (answers : List ℕ) (e : Event) → 0 < n → at < count l → e ≡ event_at l at → bad e ≡ true
    → stopped (standing r at ran (Ok tt) answers) ≡ run n l (standing r at ran (Ok tt) answers)
at_bad n l r at ran answers e m h q b = turns.at_bad n l r at ran answers m h (ap bad (sym q) ∙ b)

pub at_event : (n : ℕ) (l : List ℕ) (r : Record) (at ran : ℕ) (answers : List ℕ) (e : Event) (t : Told) → 0 < n → at < count l → e ≡ event_at l at
    → bad e ≡ false → t ≡ step r (meant e)
    → run (n - 1) l (standing t.state (at + 1) (ran + 1) (Ok tt) (set answers at t.number)) ≡ run n l (standing r at ran (Ok tt) answers)
at_event n l r at ran answers e t m h q b d =
    ap (run (n - 1) l) (turns.answered l r at ran answers h (ap bad (sym q) ∙ b) (ap meant q) d) ∙ sym (turns.first n l (standing r at ran (Ok tt) answers) m)

-- the test of a turn: something is to be run, and there is an event
pub going : (ran most at count : ℕ) → (ltb ran most && ltb at count) ≡ true → (ran < most) × (at < count)
unfolding ◌and◌
going ran most at count h =
    let x = both {a = ltb ran most} {b = ltb at count} h in (ltb-true _ _ x.0, ltb-true _ _ x.1)

-- where it fails, nothing more is run
pub over : (most : ℕ) (l : List ℕ) (r : Record) (at ran : ℕ) (answers : List ℕ) → (ltb ran most && ltb at (count l)) ≡ false
    → standing r at ran (Ok tt) answers ≡ run (most - ran) l (standing r at ran (Ok tt) answers)
over most l r at ran answers h =
    let s = standing r at ran (Ok tt) answers in
    test (ltb ran most)
    (λ b. sym (turns.ended (most - ran) l s refl (ltb-false _ _ (ap (λ (x : Bool). x && ltb at (count l)) (sym b) ∙ h))))
    (λ b. let none : 0 ≡ most - ran = omega tests in ap (λ (n : ℕ). run n l s) none)
