-- What a report, and going on to the next phase, leave alone. Assumes nothing.
use Prim.Native.Nat.{ℕ}
use mathlib.Core.Path.{◌≡◌, refl}
use mathlib.Core.List.{List}
use Rattle.choice.proofs.Picks.{each}
use Rattle.std.specs.Prelude.{Option, Some, None}
use Rattle.phases.specs.declared.Phase.{Phase}
use Rattle.answers.specs.Answers.{Said}
use Rattle.record.specs.Given.Effect.{works}
use Rattle.record.specs.Fields.{with_place}
use Rattle.record.specs.declared.Record.{Record}
use Rattle.step_structure.specs.Structure.{onward}
use Rattle.calls.specs.Calls.{Report}
use Rattle.demand_steps.specs.Knowing.{Item, Watch, lists}
use Rattle.demand_steps.specs.Watching.{hears_report}

-- of the watcher, a Done report changes the two lists alone
pub report_keeps : {A : Type 0} (f : Watch → A) → ((d u : List Item) (w : Watch) → f (lists d u w) ≡ f w) → (of : Report) (t : ℕ) (a : Said) (w : Watch) →
    f (hears_report of t works a w) ≡ f w
unfolding hears_report
report_keeps f same of t a w = let P : Watch → Type 0 = λ y. f y ≡ f w in each P _ (each P _ (same _ _ w) (same _ _ w)) refl

-- of the record, going on changes the place alone
pub onward_keeps : {A : Type 0} (f : Record → A) → ((p a b : ℕ) (r : Record) → f (with_place p a b r) ≡ f r) → (next : Option Phase) (r : Record) → f (onward next r) ≡ f r
unfolding onward
onward_keeps f same (Some next) r = same _ _ _ r
onward_keeps f same None r = refl
