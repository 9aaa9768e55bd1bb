-- How a report is tested by its ticket, and how one that is Done counts, for the engine and for the watcher. Assumes nothing.
use Prim.Native.Nat.{ℕ, ◌+◌}
use mathlib.Core.Path.{◌≡◌, refl, ◌∙◌, ap}
use mathlib.Core.Bool.{Bool, true, false}
use mathlib.Core.List.{[], ◌∷◌, ◌++◌}
use lib.Dec.{eqb}
use lib.ListN.{length-append}
use Rattle.choice.specs.Pick.{pick, ◌and◌, ◌or◌}
use Rattle.choice.proofs.Picks.{yes}
use Rattle.answers.specs.Classes.{StepAnswer, takes}
use Rattle.answers.specs.Classes.Class.{stepping}
use Rattle.answers.specs.Answers.{said}
use Rattle.record.specs.Given.Effect.{works}
use Rattle.record.specs.declared.Record.{Record}
use Rattle.tickets.specs.Live.{work_of, is_live}
use Rattle.tickets.specs.declared.Live.{Live}
use Rattle.tickets.specs.declared.Live.TheVariants.{None, Structure, Update, Rollback}
use Rattle.calls.specs.Calls.{Report}
use Rattle.demand_steps.specs.Knowing.{Item, Watch, lists}
use Rattle.demand_steps.specs.Watching.{item_of, hears_report}
use Rattle.demand_steps.proofs.Facts.{Tick}
use Rattle.plain.specs.declared.Taken.{Taken}
use Rattle.plain.specs.Taking.{ticketed, counted, spends, is_open}
use Rattle.plain_laws.specs.Known.{Known, known_by, heard_by}
use Rattle.plain_laws.proofs.Knowing.{Agrees}

-- one Done report more, as both count it
abbrev counting : Bool → Known → Known
counting v k = record {
  running = k.running;
  structural = k.structural;
  size = k.size;
  turned = k.turned;
  started = k.started;
  done = pick v k.done (k.done + 1);
  undone = pick v (k.undone + 1) k.undone;
}

noted : (v : Bool) (i : Item) (w : Watch) → counting v (heard_by w) ≡ heard_by (pick v (lists w.done (w.undone ++ (i ∷ [])) w) (lists (w.done ++ (i ∷ [])) w.undone w))
unfolding pick
noted true i w = simp (length-append w.undone (i ∷ []))
noted false i w = simp (length-append w.done (i ∷ []))

-- the ticket passes that is the live one: its number is the serial
live_is : (l : Live) (s p n a k ticket work : ℕ) (v : Bool) → eqb 0 work ≡ false → Tick l s p n a k v → eqb (work_of l) work and eqb s ticket ≡ is_live work ticket l
unfolding is_live ◌and◌
live_is None s p n a k ticket work v e x = rw e
live_is (Structure i) s p n a k ticket work v e x = rw x.number
live_is (Update i) s p n a k ticket work v e x = rw x.number
live_is (Rollback i) s p n a k ticket work v e x = rw x.number

module _ {t : Taken} {w : Watch} {r : Record} (x : Agrees t w r) where
  pub open_same : (work ticket : ℕ) → eqb 0 work ≡ false → is_open work ticket t ≡ is_live work ticket r.live
  unfolding is_open
  open_same work ticket e = rw (x.holds.live, x.holds.serial) (live_is r.live r.serial _ _ _ _ ticket work _ e x.good.is_whole.ticket)

  -- the watcher notes it, whatever it is for
  pub counts : (of : Report) (ticket : ℕ) (s : StepAnswer) → takes s ≡ true → known_by (counted (spends t)) ≡ heard_by (hears_report of ticket works (said (stepping s) []) w)
  unfolding counted ticketed hears_report pick
  counts of ticket s h = ap (λ (k : Known). counting k.turned k) x.same ∙ noted w.turned (item_of of ticket w) w ∙ ap heard_by (yes w h refl)
