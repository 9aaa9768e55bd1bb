-- The plain engine asked about a structural reload that is turned, from words that are written out, and about the recorded reload that is
-- replayed; and the theorems that it agrees, applied: no hypothesis of theirs is met by nothing. Assumes nothing.
use Prim.Native.Nat.{ℕ}
use mathlib.Core.Path.{◌≡◌, refl}
use mathlib.Core.List.{List, [], ◌∷◌}
use lib.ListN.{replicate}
use Rattle.std.specs.Prelude.{Ok, Err}
use native.Mathlib.Omega.{arith}
use Rattle.choice.specs.Pick.{pick, ◌and◌, ◌or◌}
use Rattle.areas.specs.Areas.{long}
use Rattle.answers.specs.declared.Refusal.TheVariants.{BadArea, Damaged}
use Rattle.record.specs.Given.{at, opening}
use Rattle.record.specs.declared.Opening.{Opening}
use Rattle.demand_steps.specs.Typed.{Typed}
use Rattle.log_layout.specs.Log.{input_sized, input_sound}
use Rattle.input_events.specs.declared.Fault.TheVariants.{BadEvent, Refused}
use Rattle.input_events.specs.Events.{event_at, misused, stray, bad}
use Rattle.input_events.specs.Meaning.{call_by}
use Rattle.plain.specs.declared.Question.{Question}
use Rattle.plain.specs.declared.Question.TheVariants.{Phase, CommitAllowed, RecoveryAllowed, DueAsking, Revision}
use Rattle.plain.specs.Plain.{is_done, is_back, is_updated, is_over, is_left, forward_phase, back_phase, phase_of, commit_allowed, recovery_allowed, is_settling, is_updating, due_asking, answer_to}
use Rattle.plain.specs.Taking.{opened, fresh, replaced, ticketed, asking, counted, no_begin, takes_begin, takes_structure, takes_update, takes_rollback, is_open, reported, takes_report, takes_settled, takes_commit, takes_recovery, takes_refresh, takes}
use Rattle.plain.specs.Looking.{Finding, looks, asked}
use Rattle.plain_laws.proofs.Theorems.{phase-agrees, bad_agrees, refusal_agrees}
use Rattle.demand_cases.proofs.ReplayExhibit.{replays, counting}

-- a question to be computed, at the opening of the exhibits
abbrev pub given : Opening
given = at 7 0 2

unfoldable pub asks : Question → List ℕ → ℕ → Finding
unfolding pick ◌and◌ ◌or◌ long input_sized input_sound event_at misused stray bad call_by is_done is_back is_updated is_over is_left forward_phase back_phase phase_of commit_allowed recovery_allowed is_settling is_updating due_asking answer_to opened fresh replaced ticketed asking counted no_begin takes_begin takes_structure takes_update takes_rollback is_open reported takes_report takes_settled takes_commit takes_recovery takes_refresh takes looks asked
asks q l n = asked q given l n

-- the five answers after so many events
abbrev pub Met : List ℕ → ℕ → ℕ → ℕ → ℕ → ℕ → ℕ → Type 0
Met l n phase commit recovery due revision =
    (asks Phase l n ≡ Ok phase) × (asks CommitAllowed l n ≡ Ok commit) × (asks RecoveryAllowed l n ≡ Ok recovery)
    × (asks DueAsking l n ≡ Ok due) × (asks Revision l n ≡ Ok revision)

-- begin structural with one action; ask for structure work, report it with a ticket that was never given, and report it Done; ask for a rollback
abbrev pub turned : List ℕ
turned =
    5 ∷ 4 ∷ 5 ∷ 0
    ∷ 2 ∷ 0 ∷ 0 ∷ 0 ∷ 1 ∷ 2 ∷ 2 ∷ 0
    ∷ 3 ∷ 0 ∷ 0 ∷ 0 ∷ 0 ∷ 0 ∷ 0 ∷ 0
    ∷ 4 ∷ 9 ∷ 2 ∷ 0 ∷ 0 ∷ 2 ∷ 2 ∷ 0
    ∷ 4 ∷ 1 ∷ 2 ∷ 0 ∷ 0 ∷ 2 ∷ 2 ∷ 0
    ∷ 7 ∷ 0 ∷ 0 ∷ 0 ∷ 0 ∷ 0 ∷ 0 ∷ 0
    ∷ []

-- idle; in phase 1, where the refused report changes nothing; in phase 2; and, with no update started, at once in phase 9, of which more
-- events than the head counts tell no more
pub turned_met : Met turned 0 0 0 0 0 7 × Met turned 2 1 0 0 1 7 × Met turned 3 1 0 0 1 7 × Met turned 4 2 0 0 1 7 × Met turned 9 9 0 0 1 7
unfolding asks
turned_met = (
  (refl, refl, refl, refl, refl),
  (refl, refl, refl, refl, refl),
  (refl, refl, refl, refl, refl),
  (refl, refl, refl, refl, refl),
  (refl, refl, refl, refl, refl),
)

-- the reload of one update: due until it is reported Done, and then committed, at the next revision; with one event more that is bad, and with
-- a count over the room
pub reload_met : Met (counting 8) 5 0 0 0 2 7 × Met (counting 8) 7 0 1 0 0 7 × Met (counting 8) 8 0 0 0 0 8 × (asks Phase (counting 9) 9 ≡ Err (BadEvent 8))
    × (asks Phase (counting 10) 9 ≡ Err (Refused Damaged)) × (asks Phase [] 0 ≡ Err (Refused BadArea))
unfolding asks
reload_met = (
  (refl, refl, refl, refl, refl),
  (refl, refl, refl, refl, refl),
  (refl, refl, refl, refl, refl),
  refl,
  refl,
  refl,
)

-- where the events are run, where one is bad, and where the log is refused
module _ where
  typed : Typed given
  typed = record { revision = omega arith; replacements = omega arith }

  pub phase_met : asked Phase given turned 5 ≡ Ok (replays turned 0 (opening given 3) (replicate 5 0) 5).state.phase.number
  unfolding replays
  phase_met = phase-agrees given 3 typed (omega arith) turned (replicate 5 0) (omega arith) 5 refl

  pub bad_met : asked Phase given (counting 9) 9 ≡ Err (BadEvent 8)
  unfolding replays
  bad_met = bad_agrees given 3 typed (omega arith) (counting 9) (replicate 9 0) (omega arith) 9 Phase 8 refl

  pub refused_met : asked Phase given (counting 10) 9 ≡ Err (Refused Damaged)
  unfolding replays
  refused_met = refusal_agrees given 3 typed (omega arith) (counting 10) (replicate 9 0) (omega arith) 9 Phase Damaged refl
