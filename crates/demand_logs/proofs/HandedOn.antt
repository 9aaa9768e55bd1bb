-- "In one chain of calls, each given what the last left": what a call has left of all that it was lent is what it is lent next, and the
-- log likewise. What it is not lent stays as it is held, and filling the exchange area changes nothing else. Assumes nothing.
use Prim.Native.Nat.{ℕ}
use mathlib.Core.Path.{◌≡◌, refl, ap}
use mathlib.Core.Bool.{Bool, true, false}
use mathlib.Core.List.{List, [], ◌∷◌}
use lib.ListN.{get_or, drop}
use Rattle.choice.proofs.Picks.{each}
use Rattle.record.specs.Answers.{Told, refuse}
use Rattle.record.specs.Leaves.{Leaves, leaves}
use Rattle.record.specs.declared.Record.{Record}
use Rattle.answers.specs.declared.Refusal.TheVariants.{LogFull}
use Rattle.calls.specs.Calls.{Call, AnyCall}
use Rattle.calls.specs.Calls.AnyCall.{opens, calls}
use Rattle.calls.specs.Lending.{call_of, lent, moved, leaves_of}
use Rattle.noting.specs.Recorded.{recorded, besides}
use Rattle.noting.specs.Through.{inner, logs, leaves_through}
use Rattle.demand_logs.specs.Holding.{Held, Given, lends, keeps, handed_back, does}
use Rattle.demand_logs.specs.Holding.Payload.{structured, updated, rolledBack}
use Rattle.demand_logs.specs.Holding.Given.{begin, ask, report, edit, commit, recover, recover_retained, refresh, stamp, check}
use Rattle.demand_logs.specs.Holding.Doing.{transacts, records, fills}

-- the lists l that a call leaves, held and lent again
module _ {logged : Bool} (h : Held) (g : Given logged) (s : Record) (log : List ℕ) where
  abbrev Back : List (List ℕ) → Type 0
  Back l = lent (lends (handed_back s log (keeps h g l)) g) ≡ l

-- of a call that is given to what is held, and leaves the record s, the log and l of what it was lent: it is no opening; the lists come
-- back, whether they stay or move; and with what it was lent put back as it was, nothing has changed
pub record Placed {logged : Bool} (h : Held) (g : Given logged) (r s : Record) (log : List ℕ) (l : List (List ℕ)) : Type 0 where
  pub call : Call
  pub called : call_of (lends h g) ≡ calls call
  pub stays : Back h g s log (lent (lends h g))
  pub moves : Back h g s log (moved r (lends h g))
  pub put_back : handed_back h.state h.log (keeps (handed_back s log (keeps h g l)) g (lent (lends h g))) ≡ h

pub placed : {logged : Bool} (h : Held) (g : Given logged) (r s : Record) (log : List ℕ) (l : List (List ℕ)) → Placed h g r s log l
placed h (begin structural new old pairs) r s log l = record { call = _; called = refl; stays = refl; moves = refl; put_back = refl }
placed h (ask w) r s log l = record { call = _; called = refl; stays = refl; moves = refl; put_back = refl }
placed h (report (structured new old) ticket outcome) r s log l = record { call = _; called = refl; stays = refl; moves = refl; put_back = refl }
placed h (report (updated payload) ticket outcome) r s log l = record { call = _; called = refl; stays = refl; moves = refl; put_back = refl }
placed h (report (rolledBack payload) ticket outcome) r s log l = record { call = _; called = refl; stays = refl; moves = refl; put_back = refl }
placed h (edit new old) r s log l = record { call = _; called = refl; stays = refl; moves = refl; put_back = refl }
placed h commit r s log l = record { call = _; called = refl; stays = refl; moves = refl; put_back = refl }
placed h (recover n) r s log l = record { call = _; called = refl; stays = refl; moves = refl; put_back = refl }
placed h recover_retained r s log l = record { call = _; called = refl; stays = refl; moves = refl; put_back = refl }
placed h (refresh n) r s log l = record { call = _; called = refl; stays = refl; moves = refl; put_back = refl }
placed h (stamp domain) r s log l = record { call = _; called = refl; stays = refl; moves = refl; put_back = refl }
placed h (check domain with) r s log l = record { call = _; called = refl; stays = refl; moves = refl; put_back = refl }

-- refused or not
back : {logged : Bool} (h : Held) (g : Given logged) (t : Told) (s : Record) (log : List ℕ) → Back h g s log (besides t (lent (lends h g)) (moved h.state (lends h g)))
back h g t s log = let p = placed h g h.state s log [] in each (Back h g s log) _ p.stays p.moves

pub handed_on : (h : Held) (g : Given false) → lent (lends (does h (transacts g)) g) ≡ (leaves_of h.state (lends h g)).lent
handed_on h g = back h g (leaves_of h.state (lends h g)).told _ h.log

pub confined : (h : Held) (g : Given false) →
    (handed_back h.state h.log (keeps (does h (transacts g)) g (lent (lends h g))) ≡ h) × ((does h (transacts g)).log ≡ h.log)
confined h g = ((placed h g h.state _ _ _).put_back, refl)

pub fills_alone : (h : Held) (x : List ℕ) → does (does h (fills x)) (fills h.exchange) ≡ h
fills_alone h x = refl

-- through the log, which comes first
module _ (h : Held) (g : Given true) where
  pub confined_logged : handed_back h.state h.log (keeps (does h (records g)) g (lent (lends h g))) ≡ h
  confined_logged = (placed h g h.state _ _ _).put_back

  abbrev Lands : Leaves → Type 0
  Lands v =
      get_or v.lent 0 [] ∷ lent (lends (handed_back v.told.state (get_or v.lent 0 []) (keeps h g (drop 1 v.lent))) g) ≡ v.lent

  row : (t : Told) (x : List ℕ) {l : List (List ℕ)} → Back h g t.state x l → Lands (leaves t (x ∷ l))
  row t x e = ap (λ (m : List (List ℕ)). x ∷ m) e

  lands : (c : AnyCall) (t : Told) → Lands (logs c t h.state h.log (lent (lends h g)) (moved h.state (lends h g)))
  unfolding recorded
  lands (opens given n) t =
      let p = placed h g h.state t.state in each (λ (l : List (List ℕ)). Lands (leaves t l)) _ (row t _ (p _ []).stays) (row t _ (p _ []).moves)
  lands (calls c) t =
      each Lands _ (row t _ (back h g t _ _)) (each Lands _ (row (refuse LogFull h.state) _ (placed h g h.state _ _ []).stays) (row t _ (back h g t _ _)))

  pub handed_on_logged : (does h (records g)).log ∷ lent (lends (does h (records g)) g) ≡ (leaves_through h.state h.log (lends h g)).lent
  unfolding leaves_through
  handed_on_logged = lands (call_of (lends h g)) (inner h.state h.log (lends h g))
