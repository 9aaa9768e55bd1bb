-- Replaying the events of recorded calls is their chain: the same records and the same answers, event by event. Assumes nothing.
use Prim.Native.Nat.{ℕ, suc, ◌+◌, ◌<◌}
use mathlib.Core.Path.{◌≡◌, sym, ap, ◌∙◌}
use mathlib.Core.Bool.{true}
use mathlib.Core.List.{List, [], ◌∷◌}
use lib.ListN.{length, set}
use lib.Seq.{sets}
use native.Mathlib.Nat.{add-zero}
use native.Mathlib.Numerals.{add-one}
use native.Mathlib.Omega.{arith}
use borrow.Author.Tests.{lt-leb}
use Rattle.choice.specs.Pick.{◌or◌}
use Rattle.choice.proofs.Picks.{no}
use Rattle.record.specs.declared.Record.{Record}
use Rattle.log_layout.specs.Log.{count}
use Rattle.calls.specs.Calls.{Call, step}
use Rattle.input_events.specs.Events.{event_at, bad}
use Rattle.input_events.specs.Meaning.{meant}
use Rattle.demand_chains.specs.Chains.{after, heard}
use Rattle.std.specs.Prelude.{Ok}
use Rattle.replays.specs.Replaying.{standing, moved, next, run}
use Rattle.replay_laws.specs.Recording.{Holds, event_of, is_recorded}
use Rattle.replay_laws.specs.Recording.Holds.{none, more}
use Rattle.replay_laws.specs.Entering.{numbers}
use Rattle.replay_laws.proofs.Events.{meaning}

module _ (l : List ℕ) where
  -- the next event is that of a recorded call
  pub next_call : (r : Record) (at ran : ℕ) (a : List ℕ) (c : Call) → at < count l → event_at l at ≡ event_of c → is_recorded c ≡ true
      → next l (standing r at ran (Ok tt) a) ≡ moved (step r c) (standing r at ran (Ok tt) a)
  unfolding next ◌or◌
  next_call r at ran a c h e k =
      let m = meaning c k in
      sym (no _ (lt-leb _ _ h) (no _ (ap bad e ∙ m.good)
      (ap (λ (x : Call). moved (step r x) (standing r at ran (Ok tt) a)) (sym (ap meant e ∙ m.same)))))

  pub run_chain : (cs : List Call) (r : Record) (at ran : ℕ) (a : List ℕ) → Holds l at cs
      → run (length cs) l (standing r at ran (Ok tt) a) ≡ standing (after r cs) (at + length cs) (ran + length cs) (Ok tt) (sets a at (numbers r cs))
  unfolding after heard
  run_chain [] r at ran a none =
      ap (λ (n : ℕ). standing r n ran (Ok tt) a) (sym (add-zero at)) ∙ ap (λ (n : ℕ). standing r (at + 0) n (Ok tt) a) (sym (add-zero ran))
  run_chain (c ∷ cs) r at ran a (more h e k rest) =
      let t = step r c in
      let out = set a at t.number in
      let place : at + 1 + length cs ≡ at + suc (length cs) = omega arith in
      let count : ran + 1 + length cs ≡ ran + suc (length cs) = omega arith in
      ap (run (length cs) l) (next_call r at ran a c h e k)
      ∙ run_chain cs t.state (at + 1) (ran + 1) out rest
      ∙ ap (λ (n : ℕ). standing (after t.state cs) n (ran + 1 + length cs) (Ok tt) (sets out (at + 1) (numbers t.state cs))) place
      ∙ ap (λ (n : ℕ). standing (after t.state cs) (at + suc (length cs)) n (Ok tt) (sets out (at + 1) (numbers t.state cs))) count
      ∙ ap (λ (n : ℕ). standing (after t.state cs) (at + suc (length cs)) (ran + suc (length cs)) (Ok tt) (sets out n (numbers t.state cs))) (add-one at)
