-- A chain of real calls, each handed all that the last left, has the records and the answers of the chain of calls as they are sent: so
-- every theorem over those holds of it, and demands 2 and 3 with them. Assumes nothing.
use Prim.Native.Nat.{ℕ}
use mathlib.Core.Path.{◌≡◌, refl, sym, ◌∙◌, ap}
use mathlib.Core.Bool.{Bool, true}
use mathlib.Core.List.{List, [], ◌∷◌, ◌++◌}
use native.Mathlib.Omega.{arith}
use Rattle.std.specs.Prelude.{Ok}
use Rattle.choice.specs.Pick.{pick}
use Rattle.answers.specs.Classes.{successful}
use Rattle.answers.specs.Classes.Class.{performed}
use Rattle.answers.specs.Answers.{said}
use Rattle.record.specs.Answers.{Told, said_of}
use Rattle.record.specs.declared.Record.{Record}
use Rattle.record.specs.declared.Opening.{Opening}
use Rattle.record.specs.Given.{standing}
use Rattle.step_opens.specs.Opening.{open_step}
use Rattle.step_stamps.specs.Stamping.{says_stamping}
use Rattle.step_stamps.specs.declared.SaveStamp.{SaveStamp}
use Rattle.calls.specs.Calls.{Call, AnyCall, step}
use Rattle.calls.specs.Calls.Call.{stamp, check}
use Rattle.calls.specs.Calls.AnyCall.{opens, calls}
use Rattle.calls.specs.Lending.{leaves_of, unopened}
use Rattle.calls.specs.Lending.Lending.{open_at}
use Rattle.noting.specs.Through.{leaves_through}
use Rattle.demand_steps.specs.Typed.{Typed}
use Rattle.demand_steps.specs.Knowing.{Heard, hears, Watch, unwatched}
use Rattle.demand_steps.specs.Watching.{watch}
use Rattle.demand_chains.specs.Sending.{Sent, answered_any, after_sent, heard_sent}
use Rattle.demand_chains.specs.Promises.{stamp_passes}
use Rattle.demand_chains.specs.DemandThree.{DemandThree}
use Rattle.demand_logs.specs.Holding.{Held, Doing, lends, does, hearing, hears_of, sending, sends, after_held, heard_held, sent_held}
use Rattle.demand_logs.specs.Holding.Doing.{transacts, records, fills}
use Rattle.demand_chains.proofs.SentCalls.{sent_transaction, sent_recorder}
use Rattle.demand_chains.proofs.Stamps.{stamp_law}
use Rattle.demand_chains.proofs.Theorems.{demands}
use Rattle.demand_logs.proofs.HandedOn.{placed}

-- what was heard up to the record s, as a chain of calls that are sent
record Follows (r s : Record) (heard : List Heard) (sent : List Sent) : Type 0 where
  state : (ss : List Sent) → after_sent r (sent ++ ss) ≡ after_sent s ss
  told : (ss : List Sent) → heard_sent r (sent ++ ss) ≡ heard ++ heard_sent s ss

-- a call, which is no opening, that tells t, and is answered so where it is sent so
follows : (r : Record) (t : Told) (c : AnyCall) {call : Call} → c ≡ calls call → (sized sound full : Bool) → t ≡ answered_any sized sound full r c →
    Follows r t.state (hearing c t) (sending c sized sound full)
unfolding after_sent heard_sent
follows r t (opens given n) i sized sound full e = let z : ◌≡◌ {A = ℕ} 0 1 = cc in absurd (omega arith)
follows r t (calls c) i sized sound full e = record {
  state = λ ss. ap (λ (u : Told). after_sent u.state ss) (sym e);
  told = λ ss. ap (λ (u : Told). hears c u ∷ heard_sent u.state ss) (sym e);
}

one : (h : Held) (d : Doing) → Follows h.state (does h d).state (hears_of h d) (sends h d)
one h (transacts g) =
    follows _ (leaves_of h.state (lends h g)).told _ (placed h g h.state h.state [] []).called _ _ _ (sent_transaction h.state (lends h g))
one h (records g) =
    follows _ (leaves_through h.state h.log (lends h g)).told _ (placed h g h.state h.state [] []).called _ _ _
    (sent_recorder h.state h.log (lends h g))
one h (fills x) = record { state = λ ss. refl; told = λ ss. refl }

pub held_after_lem : (h : Held) (ds : List Doing) → (after_held h ds).state ≡ after_sent h.state (sent_held h ds)
unfolding after_held sent_held after_sent
held_after_lem h [] = refl
held_after_lem h (d ∷ ds) = held_after_lem (does h d) ds ∙ sym ((one h d).state (sent_held (does h d) ds))

pub held_heard : (h : Held) (ds : List Doing) → heard_held h ds ≡ heard_sent h.state (sent_held h ds)
unfolding heard_held sent_held heard_sent
held_heard h [] = refl
held_heard h (d ∷ ds) = ap (λ (hs : List Heard). hears_of h d ++ hs) (held_heard (does h d) ds) ∙ sym ((one h d).told (sent_held (does h d) ds))

module _ (h : Held) (ds : List Doing) where
  abbrev now : Record
  now = (after_held h ds).state

  abbrev seen : Watch
  seen = watch unwatched (heard_held h ds)

  -- "a stamp taken in it passes exactly if nothing is staged, the domain is equal and", by request 3, "no commit, recovery or refresh has
  -- succeeded since"
  pub held_stamps : (d : ℕ) (s : SaveStamp) (e : ℕ) → Typed (standing h.state) → said_of (step h.state (stamp d)) ≡ says_stamping (Ok s) →
      said_of (step now (check e s)) ≡ said performed (pick (stamp_passes seen.running e d seen.replacements) 1 0 ∷ [])
  held_stamps d s e m t = rw (held_after_lem h ds, held_heard h ds) (stamp_law h.state d s (sent_held h ds) e m t)

  -- "In such a chain from an opening that is not refused": of the transaction, and of the recorder
  module _ (given : Opening) (a p : List ℕ) (m : Typed given) where
    from : (sized : Bool) (l : ℕ) → successful (open_step sized given l).class ≡ true → h.state ≡ (open_step sized given l).state
        → DemandThree given now seen
    from sized l o e = rw (held_after_lem h ds, held_heard h ds) (rw (← e) at (demands sized given l m o (sent_held h ds)))

    pub held-demands : successful (leaves_of unopened (open_at given a p)).told.class ≡ true → h.state ≡ (leaves_of unopened (open_at given a p)).told.state
        → DemandThree given now seen
    held-demands = from _ _

    pub held-demands-logged : (log : List ℕ) → successful (leaves_through unopened log (open_at given a p)).told.class ≡ true
        → h.state ≡ (leaves_through unopened log (open_at given a p)).told.state → DemandThree given now seen
    unfolding leaves_through
    held-demands-logged log = from _ _
