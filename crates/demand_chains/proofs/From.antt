-- Demand 3 from any whole record, of which an opening is one case: what the watcher is told of it ties to it. Assumes nothing.
use Prim.Native.Nat.{ℕ}
use mathlib.Core.Path.{◌≡◌, refl}
use mathlib.Core.Bool.{Bool, true, false}
use mathlib.Core.List.{List}
use native.Mathlib.Omega.{arith}
use lib.Dec.{leb}
use borrow.Author.Tests.{leb-true, leb-false}
use Rattle.record.specs.Given.{standing}
use Rattle.record.specs.declared.Record.{Record}
use Rattle.tickets.specs.declared.Live.{Live}
use Rattle.tickets.specs.declared.Live.TheVariants.{None, Structure, Update, Rollback}
use Rattle.wholeness.specs.Whole.{whole}
use Rattle.demand_chains.specs.Sending.{Sent, after_sent, heard_sent}
use Rattle.demand_steps.specs.Typed.{Typed}
use Rattle.demand_steps.specs.Knowing.{Watch}
use Rattle.demand_steps.specs.Watching.{watch}
use Rattle.demand_chains.specs.Starting.{live_item, done_of, undone_of, started_of, watch_of}
use Rattle.demand_chains.specs.DemandThree.{DemandThree}
use Rattle.demand_steps.proofs.Facts.{Whole, Tick}
use Rattle.demand_steps.proofs.Reading.{whole_facts}
use Rattle.demand_chains.proofs.Course.{Kind, Last, Course}
use Rattle.demand_chains.proofs.Course.Kind.{update_only, structural}
use Rattle.demand_chains.proofs.Course.Course.{ahead, behind}
use Rattle.demand_chains.proofs.Noting.{Tied}
use Rattle.demand_chains.proofs.Chain.{good_chain}
use Rattle.demand_chains.proofs.Revision.{chain_gains, chain_counts}
use Rattle.demand_chains.proofs.Demands.{demand_three}

kind_of_lem : (p : ℕ) (t : Bool) → leb 1 p ≡ t → Kind t p
kind_of_lem p true e = structural refl (leb-true 1 p e)
kind_of_lem p false e = let h = leb-false 1 p e in update_only refl (omega arith)

last_of : (r : Record) (l : Live) → Tick l r.serial r.phase.number r.entries r.applied r.attempted r.restoring →
    Last l r.serial (live_item l r) r.phase.number r.applied r.entries
last_of r None x = tt
last_of r (Structure t) x = (omega (arith, x.number), refl)
last_of r (Update t) x = (omega (arith, x.number), refl)
last_of r (Rollback t) x = (omega (arith, x.number), refl)

course_of : (r : Record) (v : Bool) →
    Course (leb 1 r.phase.number) r.entries (started_of v r) (done_of v r) (undone_of v r) r.forward r.back r.entries r.applied r.attempted v
course_of r true = behind refl r.back (omega arith) refl
course_of r false = ahead refl refl refl refl refl

tied_of : (r : Record) → Whole r → Tied (watch_of r) r
unfolding watch_of
tied_of r w = record { running = refl; turning = refl; kind = kind_of_lem r.phase.number _ refl; last = last_of r r.live w.ticket; course = course_of r r.restoring }

module _ (r : Record) (m : Typed (standing r)) (h : whole r ≡ true) (ss : List Sent) where
  abbrev now : Record
  now = after_sent r ss

  abbrev seen : Watch
  seen = watch (watch_of r) (heard_sent r ss)

  pub demands_from : DemandThree (standing r) now seen
  unfolding watch_of
  demands_from =
      let w = whole_facts r m h in
      let g = chain_gains (watch_of r) r ss in
      let n = chain_counts (watch_of r) r ss in
      demand_three _ seen now (good_chain (watch_of r) r ss (record { is_whole = w; tied = tied_of r w })) (omega arith) (omega arith)
