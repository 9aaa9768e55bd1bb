-- What the watcher is told of a record that a chain starts from, where it is no opening: a stored one may be staged. Assumes nothing.
use Rattle.std.specs.Prelude.{ℕ, ◌+◌, ◌-◌, Bool, true, false, List, [], leb}
use Rattle.record.specs.declared.Record.{Record}
use Rattle.tickets.specs.declared.Live.{Live}
use Rattle.tickets.specs.declared.Live.TheVariants.{None, Structure, Update, Rollback}
use Rattle.demand_steps.specs.Knowing.{Item, Watch}
use Rattle.demand_steps.specs.Knowing.Item.{settle, apply, undo, unknown}
use Rattle.demand_chains.specs.Plans.{plan_at, back_at, firsts}

abbrev pub live_item : Live → Record → Item
live_item None r = unknown
live_item (Structure t) r = settle r.phase.number
live_item (Update t) r = apply r.applied
live_item (Rollback t) r = undo (r.entries - 1)

abbrev pub done_of : Bool → Record → List Item
done_of true r = []
done_of false r = firsts (plan_at (leb 1 r.phase.number) r.entries) (r.forward + r.applied)

-- of a rollback under way, the undos that are left count as all of them
abbrev pub undone_of : Bool → Record → List Item
undone_of true r = firsts (back_at r.entries) r.back
undone_of false r = []

abbrev pub started_of : Bool → Record → ℕ
started_of true r = r.entries
started_of false r = r.attempted

unfoldable pub watch_of : Record → Watch
watch_of r = record {
  commits = 0;
  replacements = 0;
  running = r.staged;
  structural = leb 1 r.phase.number;
  size = r.entries;
  turned = r.restoring;
  started = started_of r.restoring r;
  ticket = r.serial;
  item = live_item r.live r;
  done = done_of r.restoring r;
  undone = undone_of r.restoring r;
}
