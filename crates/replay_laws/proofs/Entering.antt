-- What the recorder enters of recorded calls has the replayed numbers. Assumes nothing.
use Prim.Native.Nat.{ℕ, ◌+◌, ◌≤◌, ◌<◌}
use mathlib.Core.Path.{◌≡◌, refl, sym, ap, ◌∙◌}
use mathlib.Core.Bool.{Bool, true, false, not}
use mathlib.Core.List.{List, [], ◌∷◌, ◌++◌}
use lib.Dec.{eqb}
use lib.ListN.{length, get_or, set, length-set}
use lib.Seq.{get_or-set_same}
use native.Mathlib.Omega.{arith}
use Rattle.choice.specs.Pick.{pick}
use Rattle.choice.proofs.Picks.{no}
use Rattle.choice.proofs.Tests.{never, test}
use Rattle.answers.specs.Classes.{Class, number_of, step_written}
use Rattle.record.specs.declared.Record.{Record}
use Rattle.events.specs.Entries.{Entry, entry, event_if}
use Rattle.calls.specs.Calls.{Call, step}
use Rattle.calls.specs.Calls.AnyCall.{calls}
use Rattle.calls.specs.Kinds.{no_kind, kind_of, step_kind, written_as}
use Rattle.demand_refusals.proofs.Numbers.{numbered}
use Rattle.demand_refusals.proofs.ExactRefusals.{named-answer}
use Rattle.demand_chains.specs.Sending.{written}
use Rattle.demand_logs.specs.Logged.{events}
use Rattle.input_events.specs.declared.Event.{Event}
use Rattle.input_events.specs.Events.{event_at}
use Rattle.std.specs.Prelude.{Ok}
use Rattle.replays.specs.Replaying.{Standing, standing, moved, next}
use Rattle.replay_laws.specs.Recording.{is_recorded, Holds}
use Rattle.replay_laws.specs.Recording.Holds.{none, more}
use Rattle.replay_laws.specs.Entering.{entered, entry_of, entries_of}
use Rattle.replay_laws.proofs.Events.{meaning}
use Rattle.replay_laws.proofs.Chain.{next_call}

-- a class is written by its number
by_number : (k : ℕ) (c : Class) → eqb k no_kind ≡ false → written_as k c ≡ entered k (number_of c)
unfolding written_as entered
by_number k c e =
    let n = numbered c in
    sym (no _ e (ap (λ (b : Bool). pick (step_kind k) b (eqb (number_of c) 0)) (sym n.written) ∙ ap (λ (b : Bool). pick (step_kind k) (step_written c) b) (sym n.success)))

-- a call with a kind has another than none
kinded : (c : Call) → is_recorded c ≡ true → eqb (kind_of c) no_kind ≡ false
kinded c h = test (eqb (kind_of c) no_kind) (λ e. never (sym h ∙ ap not e)) (λ e. e)

-- the recorder's entry of a call, by the kind and the number of its event
one_entry : (r : Record) (c : Call) → is_recorded c ≡ true → event_if (written c) (kind_of c) (step r c) ≡ entry_of (kind_of c) (step r c).number (step r c).state
unfolding event_if
one_entry r c h =
    let t = step r c in
    let w = by_number (kind_of c) t.class (kinded c h) ∙ ap (entered (kind_of c)) (sym (named-answer true true r (calls c))) in
    ap (λ (b : Bool). pick b (entry (kind_of c) t.number t.state.serial t.state.revision ∷ []) []) w

pub same_entries : (l : List ℕ) (cs : List Call) (r : Record) (at ran : ℕ) (a : List ℕ) → Holds l at cs → at + length cs ≤ length a
    → entries_of (length cs) l (standing r at ran (Ok tt) a) ≡ events r cs
unfolding entries_of events
same_entries l [] r at ran a none f = refl
same_entries l (c ∷ cs) r at ran a (more h e k rest) f =
    let t = step r c in
    let s = standing r at ran (Ok tt) a in
    let inside : at < length a = omega (arith, f) in
    let left : at + 1 + length cs ≤ length (set a at t.number) = omega (arith, f, length-set a at t.number) in
    ap (λ (x : Standing). entry_of (event_at l at).kind (get_or x.answers at 0) x.state ++ entries_of (length cs) l x) (next_call l r at ran a c h e k)
    ∙ ap (λ (n : ℕ). entry_of (event_at l at).kind n t.state ++ entries_of (length cs) l (moved t s)) (get_or-set_same a at t.number 0 inside)
    ∙ ap (λ (n : ℕ). entry_of n t.number t.state ++ entries_of (length cs) l (moved t s)) (ap (λ (x : Event). x.kind) e ∙ (meaning c k).kind)
    ∙ ap (λ (es : List Entry). es ++ entries_of (length cs) l (moved t s)) (sym (one_entry r c k))
    ∙ ap (λ (es : List Entry). event_if (written c) (kind_of c) t ++ es) (same_entries l cs t.state (at + 1) (ran + 1) (set a at t.number) rest left)
