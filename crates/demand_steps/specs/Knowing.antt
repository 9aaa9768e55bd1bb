-- Demand 3: what a watcher hears of a chain, calls and answers alone, and what it knows by them, so that what is counted is not borrowed
-- from the record. How it comes to know it stands in Watching.antt. Assumes nothing.
use Rattle.std.specs.Prelude.{ℕ, Bool, false, List, [], get_or}
use Rattle.answers.specs.Answers.{Said}
use Rattle.record.specs.Answers.{Told, said_of}
use Rattle.calls.specs.Calls.{Call}

-- a call with its answer: all that a caller sees of it
pub record Heard : Type 0 where
  pub call : Call
  pub answer : Said

abbrev pub hears : Call → Told → Heard
hears c t = record { call = c; answer = said_of t }

-- what a ticket is for: the structure work of a phase, an action, the undoing of an action; unknown where it is not the ticket that
-- was given last, or the report not of its kind
pub data Item : Type 0 where
  settle apply undo : ℕ → Item
  unknown : Item

pub record Watch : Type 0 where
  -- "the successful commits"; request 3: the successful commits, recoveries and refreshes
  pub commits : ℕ
  pub replacements : ℕ
  -- a transaction is staged, whether it is structural, and its number of updates
  pub running : Bool
  pub structural : Bool
  pub size : ℕ
  -- a rollback was granted; the updates started
  pub turned : Bool
  pub started : ℕ
  -- the last ticket that was given, and what it is for
  pub ticket : ℕ
  pub item : Item
  -- what the Done reports that were taken are for: until a rollback was granted, and since
  pub done : List Item
  pub undone : List Item

-- what is counted through the whole chain
abbrev pub counts : ℕ → ℕ → Watch → Watch
counts commits replacements w = record {
  commits = commits;
  replacements = replacements;
  running = w.running;
  structural = w.structural;
  size = w.size;
  turned = w.turned;
  started = w.started;
  ticket = w.ticket;
  item = w.item;
  done = w.done;
  undone = w.undone;
}

-- a transaction begins, or ends: what is known of it starts anew, and the last ticket stays the last
abbrev pub fresh : Bool → Bool → ℕ → Watch → Watch
fresh running structural size w = record {
  commits = w.commits;
  replacements = w.replacements;
  running = running;
  structural = structural;
  size = size;
  turned = false;
  started = 0;
  ticket = w.ticket;
  item = w.item;
  done = [];
  undone = [];
}

-- it goes on: a rollback is granted, an update started, or work reported done
abbrev pub goes : Bool → ℕ → List Item → List Item → Watch → Watch
goes turned started done undone w = record {
  commits = w.commits;
  replacements = w.replacements;
  running = w.running;
  structural = w.structural;
  size = w.size;
  turned = turned;
  started = started;
  ticket = w.ticket;
  item = w.item;
  done = done;
  undone = undone;
}

abbrev pub turns : Bool → ℕ → Watch → Watch
turns turned started w = goes turned started w.done w.undone w

abbrev pub lists : List Item → List Item → Watch → Watch
lists done undone w = goes w.turned w.started done undone w

-- a ticket is given: "Ticket carries" its number "and the phase or the action's number"
abbrev pub gives : (ℕ → Item) → Said → Watch → Watch
gives for a w = record {
  commits = w.commits;
  replacements = w.replacements;
  running = w.running;
  structural = w.structural;
  size = w.size;
  turned = w.turned;
  started = w.started;
  ticket = get_or a.values 0 0;
  item = for (get_or a.values 1 0);
  done = w.done;
  undone = w.undone;
}

-- at the start from an opening
unfoldable pub unwatched : Watch
unwatched = record { commits = 0; replacements = 0; running = false; structural = false; size = 0; turned = false; started = 0; ticket = 0; item = unknown; done = []; undone = [] }
