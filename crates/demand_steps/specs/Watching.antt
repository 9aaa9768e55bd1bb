-- Demand 3: how a watcher who hears only calls and answers comes to know what Knowing.antt lists. Assumes nothing.
use Rattle.std.specs.Prelude.{ℕ, ◌+◌, max, Bool, true, false, List, [], ◌∷◌, ◌++◌, eqb, get_or}
use Rattle.choice.specs.Pick.{pick, ◌and◌}
use Rattle.answers.specs.Classes.{successful, granted, ticketed, taken}
use Rattle.answers.specs.Answers.{Said}
use Rattle.record.specs.Given.{Effect, effect_of}
use Rattle.record.specs.Given.Effect.{rests, works}
use Rattle.calls.specs.Calls.{Report, Call}
use Rattle.calls.specs.Calls.Work.{structure, update, rollback}
use Rattle.calls.specs.Calls.Report.{structured, updated, rolledBack}
use Rattle.calls.specs.Calls.Call.{begin, ask, report, edit, commit, recover, recover_retained, refresh, stamp, check}
use Rattle.demand_steps.specs.Knowing.{Heard, Item, Watch, counts, fresh, turns, lists, gives}
use Rattle.demand_steps.specs.Knowing.Item.{settle, apply, undo, unknown}

-- a report is of the work that an item is
abbrev pub is_for : Report → Item → Bool
is_for (structured c o) (settle p) = true
is_for (structured c o) (apply i) = false
is_for (structured c o) (undo i) = false
is_for (structured c o) unknown = false
is_for updated (settle p) = false
is_for updated (apply i) = true
is_for updated (undo i) = false
is_for updated unknown = false
is_for rolledBack (settle p) = false
is_for rolledBack (apply i) = false
is_for rolledBack (undo i) = true
is_for rolledBack unknown = false

-- what a reported ticket is for, where it is the last one and the report is of its kind
abbrev pub item_of : Report → ℕ → Watch → Item
item_of of ticket w = pick (eqb ticket w.ticket and is_for of w.item) w.item unknown

abbrev pub notes : Item → Watch → Watch
notes i w = pick w.turned (lists w.done (w.undone ++ (i ∷ [])) w) (lists (w.done ++ (i ∷ [])) w.undone w)

abbrev pub asked : (ℕ → Item) → Said → Watch → Watch
asked for a w = pick (ticketed a.class) (gives for a w) w

-- "Asking counts as starting": the action of the ticket, and all before it
abbrev pub asked_update : Said → Watch → Watch
asked_update a w = pick (ticketed a.class) (turns w.turned (max w.started (get_or a.values 1 0 + 1)) (gives apply a w)) w

abbrev pub asked_rollback : Said → Watch → Watch
asked_rollback a w = pick (granted a.class) (turns true w.started (asked undo a w)) w

-- "Done reports that are taken"
unfoldable pub hears_report : Report → ℕ → Effect → Said → Watch → Watch
hears_report of ticket (rests answer) a w = w
hears_report of ticket works a w = pick (taken a.class) (notes (item_of of ticket w) w) w

abbrev pub begins : Bool → ℕ → Said → Watch → Watch
begins structural size a w = pick (successful a.class) (fresh true structural size w) w

abbrev pub ends : ℕ → Said → Watch → Watch
ends commits a w = pick (successful a.class) (counts commits (w.replacements + 1) (fresh false false 0 w)) w

-- settings are replaced with nothing staged
abbrev pub refreshes : Said → Watch → Watch
refreshes a w = pick (successful a.class) (counts w.commits (w.replacements + 1) w) w

unfoldable pub sees : Watch → Call → Said → Watch
sees w (begin structural b) a = begins structural b.actions a w
sees w (ask structure) a = asked settle a w
sees w (ask update) a = asked_update a w
sees w (ask rollback) a = asked_rollback a w
sees w (report of t x) a = hears_report of t (effect_of x) a w
sees w (edit c o) a = w
sees w commit a = ends (w.commits + 1) a w
sees w (recover n) a = ends w.commits a w
sees w recover_retained a = ends w.commits a w
sees w (refresh n) a = refreshes a w
sees w (stamp domain) a = w
sees w (check domain s) a = w

-- what the watcher knows after a chain
unfoldable pub watch : Watch → List Heard → Watch
watch w [] = w
watch w (h ∷ hs) = watch (sees w h.call h.answer) hs
