-- A recorded reload that is replayed, from words that are written out, to the end and up to a bad event; and the chain of its calls, to which
-- the theorems on replays are applied: no hypothesis of theirs is met by nothing. Assumes nothing.
use Prim.Native.Nat.{ℕ}
use mathlib.Core.Path.{◌≡◌, refl}
use mathlib.Core.Bool.{false}
use mathlib.Core.List.{List, [], ◌∷◌, ◌++◌}
use lib.ListN.{replicate, drop}
use Rattle.std.specs.Prelude.{Ok, Err}
use native.Mathlib.Omega.{arith}
use Rattle.record.specs.Given.{at, beginning, opening}
use Rattle.record.specs.declared.Record.{Record}
use Rattle.record.specs.declared.Outcome.TheVariants.{Waiting, Failed, Done}
use Rattle.answers.specs.declared.Refusal.TheVariants.{BadArea, Damaged}
use Rattle.log_layout.specs.Log.{input_sized, input_sound}
use Rattle.calls.specs.Calls.{Call}
use Rattle.calls.specs.Calls.Work.{update}
use Rattle.calls.specs.Calls.Report.{updated}
use Rattle.calls.specs.Calls.Call.{begin, ask, report, commit}
use Rattle.calls.specs.Kinds.{kind_of}
use Rattle.demand_chains.specs.Chains.{after}
use Rattle.input_events.specs.Events.{event_at, misused, stray, bad}
use Rattle.input_events.specs.Meaning.{call_by}
use Rattle.input_events.specs.declared.Fault.TheVariants.{BadEvent}
use Rattle.replays.specs.Replaying.{Standing, standing, refused_at, next, sizes_fit, replayed}
use Rattle.replay_laws.specs.Recording.{event_of, event_words, input_of, all_recorded, Kept}
use Rattle.replay_laws.specs.Entering.{numbers}
use Rattle.replay_laws.proofs.Theorems.{Agree, replay_is_the_chain, recorder_agrees}
use Rattle.demand_cases.proofs.Computing.{called, through_log, start}
use Rattle.demand_cases.proofs.LoggedExhibit.{room_for}

-- a replay to be computed
unfoldable pub replays : List ℕ → ℕ → Record → List ℕ → ℕ → Standing
unfolding called input_sized input_sound event_at misused stray bad call_by next sizes_fit replayed
replays l p r a n = replayed l p r a n

-- begin with one action; ask for it and report it Waiting, then Failed with the code 7, then Done; commit; and then words that are no event
abbrev pub reload : List ℕ
reload =
    1 ∷ 0 ∷ 0 ∷ 0 ∷ 1 ∷ 2 ∷ 2 ∷ 0
    ∷ 5 ∷ 0 ∷ 0 ∷ 0 ∷ 0 ∷ 0 ∷ 0 ∷ 0
    ∷ 6 ∷ 1 ∷ 0 ∷ 0 ∷ 0 ∷ 0 ∷ 0 ∷ 0
    ∷ 5 ∷ 0 ∷ 0 ∷ 0 ∷ 0 ∷ 0 ∷ 0 ∷ 0
    ∷ 6 ∷ 2 ∷ 1 ∷ 7 ∷ 0 ∷ 0 ∷ 0 ∷ 0
    ∷ 5 ∷ 0 ∷ 0 ∷ 0 ∷ 0 ∷ 0 ∷ 0 ∷ 0
    ∷ 6 ∷ 3 ∷ 2 ∷ 0 ∷ 0 ∷ 0 ∷ 0 ∷ 0
    ∷ 9 ∷ 0 ∷ 0 ∷ 0 ∷ 0 ∷ 0 ∷ 0 ∷ 0
    ∷ replicate 8 9

-- with the count of the eight, and of one more
abbrev pub counting : ℕ → List ℕ
counting n = n ∷ 4 ∷ 9 ∷ 0 ∷ reload

-- the answers: 21 Waiting, 22 Failed, 24 Finished; the ninth word stays
abbrev pub told : List ℕ
told = 0 ∷ 20 ∷ 21 ∷ 20 ∷ 22 ∷ 20 ∷ 24 ∷ 0 ∷ 77 ∷ []

-- to the end, where the record is that after the commit; up to a bad event; and refused, with a word too few for the answers, and with a count
-- over the room
pub replayed_met :
    (replays (counting 8) 0 start (replicate 9 77) 9 ≡ standing (opening (at 8 3 3) 2) 8 8 (Ok tt) told)
    × (replays (counting 9) 0 start (replicate 9 77) 9 ≡ standing (opening (at 8 3 3) 2) 8 8 (Err (BadEvent 8)) told)
    × (replays (counting 8) 0 start (replicate 8 77) 9 ≡ refused_at BadArea 0 start (replicate 8 77))
    × (replays (counting 10) 0 start (replicate 9 77) 9 ≡ refused_at Damaged 0 start (replicate 9 77))
unfolding replays
replayed_met = (refl, refl, refl, refl)

abbrev pub calls : List Call
calls =
    begin false (beginning 2 2 1)
    ∷ ask update
    ∷ report updated 1 Waiting
    ∷ ask update
    ∷ report updated 2 (Failed 7)
    ∷ ask update
    ∷ report updated 3 Done
    ∷ commit
    ∷ []

-- these are the words of an input log of the eight calls
pub written_met : input_of 9 calls (replicate 8 9) ≡ counting 8
unfolding input_of event_words event_of kind_of
written_met = refl

kept : Kept 9 calls (replicate 8 9)
unfolding all_recorded kind_of
kept = record { recorded_all = refl; least = omega arith; most = omega arith; enough = omega arith; filled = refl }

pub chain_met : replayed (input_of 9 calls (replicate 8 9)) 0 start (replicate 9 77) 8
    ≡ standing (after start calls) 8 8 (Ok tt) (numbers start calls ++ drop 8 (replicate 9 77))
chain_met = replay_is_the_chain start calls [] 9 (replicate 8 9) (replicate 9 77) kept (omega arith)

pub agree_met : Agree start (room_for 8) calls (input_of 9 calls (replicate 8 9)) (replicate 9 77)
unfolding through_log
agree_met = recorder_agrees start (room_for 8) calls 9 (replicate 8 9) (replicate 9 77) kept (omega arith) refl refl (omega arith)
