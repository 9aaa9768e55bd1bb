-- What the clauses say of payloads, areas and updates: a payload is the first bytes of its area, and what a call is lent moves with
-- its step or stays. Assumes nothing.
use Rattle.std.specs.Prelude.{ℕ, ◌+◌, ◌*◌, ◌/◌, ◌<◌, ◌≡◌, Bool, true, false, List, [], length, get_or, take}
use Rattle.batch.specs.Batch.{identity_at, payload_at}
use Rattle.answers.specs.Classes.{refused}
use Rattle.record.specs.Answers.{refuse}
use Rattle.record.specs.Leaves.{Leaves, moving}
use Rattle.record.specs.declared.Record.{Record}
use Rattle.answers.specs.declared.Refusal.TheVariants.{BadArea}
use Rattle.calls.specs.Calls.{Call, step_of, step}
use Rattle.calls.specs.Lending.{Lending, call_of, fits, lent, moved}

-- document 01: "a payload being the first 0 to 4,096"
abbrev pub payload : ℕ → List ℕ → List ℕ
payload n area = take n area

-- what a call leaves without a log: of a call of the transaction it is `leaves_of`, and so it is of the same call of the recorder
abbrev pub unrecorded : {logged : Bool} → Record → Lending logged → Leaves
unrecorded r c = moving (step_of (fits c) true r (call_of c)) (lent c) (moved r c)

-- a call d on r, with all that it is lent: what it is lent stays if it is refused (C154, C163, C191, C205, C206, C217, C231, C232, C130,
-- C140, C155, C156), and else is what its step moves it to
pub record Lends {logged : Bool} (r : Record) (c : Lending logged) (d : Call) (v : Leaves) : Type 0 where
  pub tells : fits c ≡ true → v.told ≡ step r d
  pub bad : fits c ≡ false → v.told ≡ refuse BadArea r
  pub stays : refused v.told.class ≡ true → v.lent ≡ lent c
  pub moves : refused v.told.class ≡ false → v.lent ≡ moved r c

-- C153, C165: the updates of a table are the pairs that were given
pub record ReadBack (pairs table : List ℕ) : Type 0 where
  pub identities : (i : ℕ) → 2 * i + 1 < length pairs → identity_at table i ≡ identity_at pairs i
  pub payloads : (i : ℕ) → 2 * i + 1 < length pairs → payload_at table i ≡ payload_at pairs i

-- C26, C80 to C82, C128, C138, C149, C164: the staged payloads are the given ones, the first bytes of their areas
pub record Stages (new old : List ℕ) (v : Leaves) : Type 0 where
  pub candidate : payload v.told.state.candidate (get_or v.lent 0 []) ≡ new
  pub recovery : payload v.told.state.recovery (get_or v.lent 1 []) ≡ old

-- C153, C165: `new.batch().entries() == updates`
pub record Holds (pairs : List ℕ) (v : Leaves) : Type 0 where
  pub number : v.told.state.entries ≡ length pairs / 2
  pub updates : ReadBack pairs (get_or v.lent 2 [])

-- C94: an identity in the table that is lent stays
pub record SameIdentities (table : List ℕ) (v : Leaves) : Type 0 where
  pub identities : (i : ℕ) → identity_at (get_or v.lent 0 []) i ≡ identity_at table i

-- C108: an opening that is not refused has the given payload in the accepted area
pub record Opens (given : List ℕ) (v : Leaves) : Type 0 where
  pub c108 : payload v.told.state.accepted (get_or v.lent 0 []) ≡ given
