-- Document 02, request 4: the event of a recorded call, and an input log that holds the events of such calls. Assumes nothing.
use Rattle.std.specs.Prelude.{ℕ, zero, suc, ◌+◌, ◌*◌, ◌-◌, ◌≤◌, ◌<◌, ◌≡◌, Bool, true, not, List, [], ◌∷◌, ◌++◌, eqb, length}
use Rattle.choice.specs.Pick.{◌and◌}
use Rattle.record.specs.declared.Outcome.{Outcome}
use Rattle.record.specs.declared.Outcome.TheVariants.{Waiting, Failed, Done}
use Rattle.log_layout.specs.Log.{count, head_words, most_room, input_width}
use Rattle.calls.specs.Calls.{Call}
use Rattle.calls.specs.Calls.Report.{structured, updated, rolledBack}
use Rattle.calls.specs.Calls.Call.{begin, ask, report, edit, commit, recover, recover_retained, refresh, stamp, check}
use Rattle.calls.specs.Kinds.{no_kind, kind_of}
use Rattle.input_events.specs.declared.Event.{Event}
use Rattle.input_events.specs.Meaning.{meant}
use Rattle.input_events.specs.Events.{waiting, failed, done, no_event, event_at}

-- the calls that have a kind
abbrev pub is_recorded : Call → Bool
is_recorded c = not (eqb (kind_of c) no_kind)

unfoldable pub all_recorded : List Call → Bool
unfolding ◌and◌
all_recorded [] = true
all_recorded (c ∷ cs) = is_recorded c and all_recorded cs

-- "outcome (0 Waiting, 1 Failed, 2 Done), code"
abbrev pub outcome_word : Outcome → ℕ
outcome_word Waiting = waiting
outcome_word (Failed code) = failed
outcome_word Done = done

abbrev pub code_word : Outcome → ℕ
code_word Waiting = 0
code_word (Failed code) = code
code_word Done = 0

-- the events of begins, of reports with both lengths, and of the others, which have at most a snapshot
abbrev pub begin_event : ℕ → ℕ → ℕ → ℕ → Event
begin_event kind actions candidate recovery =
    record { kind = kind; ticket = 0; outcome = 0; code = 0; actions = actions; candidate = candidate; second = recovery; last = 0 }

abbrev pub report_event : ℕ → ℕ → Outcome → ℕ → ℕ → Event
report_event kind ticket x candidate recovery =
    record {
      kind = kind;
      ticket = ticket;
      outcome = outcome_word x;
      code = code_word x;
      actions = 0;
      candidate = candidate;
      second = recovery;
      last = 0;
    }

abbrev pub plain_event : ℕ → ℕ → Event
plain_event kind snapshot =
    record { kind = kind; ticket = 0; outcome = 0; code = 0; actions = 0; candidate = 0; second = snapshot; last = 0 }

-- the event of a call; one without a kind has none
unfoldable pub event_of : Call → Event
event_of (begin structural b) = begin_event (kind_of (begin structural b)) b.actions b.candidate b.recovery
event_of (ask w) = plain_event (kind_of (ask w)) 0
event_of (report (structured c o) t x) = report_event (kind_of (report (structured c o) t x)) t x c o
event_of (report updated t x) = report_event (kind_of (report updated t x)) t x 0 0
event_of (report rolledBack t x) = report_event (kind_of (report rolledBack t x)) t x 0 0
event_of commit = plain_event (kind_of commit) 0
event_of (recover n) = plain_event (kind_of (recover n)) n
event_of recover_retained = plain_event (kind_of recover_retained) 0
event_of (refresh n) = plain_event (kind_of (refresh n)) n
event_of (edit c o) = no_event
event_of (stamp d) = no_event
event_of (check d s) = no_event

-- "eight words an event": its words in their order
abbrev pub words_of_event : Event → List ℕ
words_of_event e =
    e.kind ∷ e.ticket ∷ e.outcome ∷ e.code ∷ e.actions ∷ e.candidate ∷ e.second ∷ e.last ∷ []

unfoldable pub event_words : List Call → List ℕ
event_words [] = []
event_words (c ∷ cs) = words_of_event (event_of c) ++ event_words cs

-- the input log of calls: "event count, first event's offset (4), room .., zero", the events, and any words up to the room
unfoldable pub input_of : ℕ → List Call → List ℕ → List ℕ
input_of room cs rest = length cs ∷ head_words ∷ room ∷ 0 ∷ (event_words cs ++ rest)

-- the calls that the next n events mean
unfoldable pub calls_from : List ℕ → ℕ → ℕ → List Call
calls_from l at zero = []
calls_from l at (suc n) = meant (event_at l at) ∷ calls_from l (at + 1) n

-- recorded calls with an input log for them: "room (1 to 1,024)", at least as many as there are calls, and as many words as it says
pub record Kept (room : ℕ) (cs : List Call) (rest : List ℕ) : Type 0 where
  pub recorded_all : all_recorded cs ≡ true
  pub least : 1 ≤ room
  pub most : room ≤ most_room
  pub enough : length cs ≤ room
  pub filled : length rest ≡ input_width * (room - length cs)

-- an input log has the events of these calls, from a number on
pub data Holds (l : List ℕ) : ℕ → List Call → Type 0 where
  none : {at : ℕ} → Holds l at []
  more : {at : ℕ} {c : Call} {cs : List Call} → at < count l → event_at l at ≡ event_of c → is_recorded c ≡ true → Holds l (at + 1) cs → Holds l at (c ∷ cs)
