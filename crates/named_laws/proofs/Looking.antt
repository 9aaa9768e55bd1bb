-- Going through a list of events, as plain has it (plain/specs/Looking.antt), by a loop's test: each turn, and where the test fails.
-- Assumes nothing.
use Prim.Native.Nat.{ℕ, zero, suc, ◌+◌, ◌-◌, ◌≤◌, ◌<◌}
use mathlib.Core.Path.{◌≡◌, refl, sym, ap, ◌∙◌}
use mathlib.Core.Bool.{Bool, true, false, ◌&&◌}
use mathlib.Core.List.{List}
use lib.Dec.{ltb}
use borrow.Author.Tests.{ltb-true, ltb-false, le-leb}
use Rattle.choice.specs.Pick.{◌and◌}
use Rattle.choice.proofs.Picks.{yes}
use Rattle.choice.proofs.Tests.{both, test, tests}
use Rattle.log_layout.specs.Log.{count}
use Rattle.input_events.specs.declared.Event.{Event}
use Rattle.input_events.specs.Events.{event_at, bad}
use Rattle.input_events.specs.Meaning.{meant}
use Rattle.plain.specs.declared.Taken.{Taken}
use Rattle.plain.specs.Taking.{takes}
use Rattle.plain.specs.Looking.{looks}
use Rattle.plain.specs.Looking.Looked.{through, stopped}
use Rattle.plain.proofs.Looking as looking

pub at_bad : (n : ℕ) (l : List ℕ) (at : ℕ) (t : Taken) (e : Event) → 0 < n → at < count l → e ≡ event_at l at → bad e ≡ true
    → stopped at ≡ looks n l at t
at_bad n l at t e m h q b = looking.at_bad n l at t m h (ap bad (sym q) ∙ b)

pub at_event : (n : ℕ) (l : List ℕ) (at : ℕ) (t : Taken) (e : Event) → 0 < n → at < count l → e ≡ event_at l at → bad e ≡ false
    → looks (n - 1) l (at + 1) (takes t (meant e)) ≡ looks n l at t
at_event n l at t e m h q b = looking.at_event n l at t m h (ap bad (sym q) ∙ b) (ap meant q)

-- the test of a turn: something is to be gone through, and there is an event
pub going : (at events count : ℕ) → (ltb at events && ltb at count) ≡ true → (at < events) × (at < count)
unfolding ◌and◌
going at events count h = let x = both {a = ltb at events} h in (ltb-true _ _ x.0, ltb-true _ _ x.1)

-- behind the last event
ended : (n : ℕ) (l : List ℕ) (at : ℕ) (t : Taken) → count l ≤ at → through t ≡ looks n l at t
unfolding looks
ended zero l at t h = refl
ended (suc n) l at t h = yes _ (le-leb _ _ h) refl

-- where the test of a turn fails, nothing more is taken
pub over : (events : ℕ) (l : List ℕ) (at : ℕ) (t : Taken) → (ltb at events && ltb at (count l)) ≡ false → through t ≡ looks (events - at) l at t
unfolding looks
over events l at t h =
    test (ltb at events)
    (λ b. ended (events - at) l at t (ltb-false _ _ (ap (λ (x : Bool). x && ltb at (count l)) (sym b) ∙ h)))
    (λ b. let none : 0 ≡ events - at = omega tests in ap (λ (n : ℕ). looks n l at t) none)
