-- Document 01, "The log", of replayed numbers: the entries that the recorder has of the events that a replay runs. Assumes nothing.
use Rattle.std.specs.Prelude.{ℕ, zero, suc, Bool, List, [], ◌∷◌, ◌++◌, map, eqb, leb, get_or}
use Rattle.choice.specs.Pick.{pick, ◌and◌, ◌or◌}
use Rattle.record.specs.declared.Record.{Record}
use Rattle.calls.specs.Calls.{Call}
use Rattle.calls.specs.Kinds.{step_kind}
use Rattle.events.specs.Entries.{Entry, entry}
use Rattle.demand_steps.specs.Knowing.{Heard}
use Rattle.demand_chains.specs.Chains.{heard}
use Rattle.input_events.specs.Events.{event_at}
use Rattle.replays.specs.Replaying.{Standing, next}

-- the numbers of a chain's answers
abbrev pub numbers : Record → List Call → List ℕ
numbers r cs = map (λ (h : Heard). h.answer.number) (heard r cs)

-- "Asks and reports answered 4, 5 or 20 to 24 are written; in other calls an event is written only if the inner answer is 0"
unfoldable pub entered : ℕ → ℕ → Bool
entered kind answer = pick (step_kind kind) (eqb answer 4 or eqb answer 5 or leb 20 answer and leb answer 24) (eqb answer 0)

-- "kind, answer, serial after, revision after", of an event that a replay has run
abbrev pub entry_of : ℕ → ℕ → Record → List Entry
entry_of kind answer r = pick (entered kind answer) (entry kind answer r.serial r.revision ∷ []) []

-- the entries of the next n events of an input log, by what replaying each of them leaves
unfoldable pub entries_of : ℕ → List ℕ → Standing → List Entry
entries_of zero l s = []
entries_of (suc n) l s =
    entry_of (event_at l s.position).kind (get_or (next l s).answers s.position 0) (next l s).state ++ entries_of n l (next l s)
