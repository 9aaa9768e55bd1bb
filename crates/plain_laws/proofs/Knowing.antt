-- The plain engine knows what the watcher of the chain theorems knows, counts in the place of lists; and of the record what the watcher is
-- not told. So its numbers are the record's, by what ties the watcher to it. Assumes nothing.
use Prim.Native.Nat.{ℕ, ◌+◌}
use mathlib.Core.Path.{◌≡◌, sym, ◌∙◌, ap}
use mathlib.Core.Bool.{Bool, true, false}
use native.Mathlib.Omega.{arith}
use lib.Dec.{leb}
use lib.ListN.{length}
use Rattle.phases.specs.Phases.{adopt}
use Rattle.tickets.specs.Live.{work_of}
use Rattle.record.specs.declared.Record.{Record}
use Rattle.demand_steps.specs.Knowing.{Watch}
use Rattle.demand_steps.proofs.Facts.{tests}
use Rattle.demand_chains.proofs.Course.{Kind, Course}
use Rattle.demand_chains.proofs.Course.Course.{ahead, behind}
use Rattle.demand_chains.proofs.Chain.{Good}
use Rattle.demand_chains.proofs.Exactly.{length_firsts}
use Rattle.plain.specs.declared.Taken.{Taken}
use Rattle.plain_laws.specs.Known.{Known, known_by, heard_by}
use Rattle.plain_laws.proofs.Numbers.{Fore, Numbers}
use Rattle.plain_laws.proofs.Rows.{Row, row}

-- a rollback is granted, or an update started
abbrev pub turning : Bool → Known → Known
turning turned k = record {
  running = k.running;
  structural = k.structural;
  size = k.size;
  turned = turned;
  started = k.started;
  done = k.done;
  undone = k.undone;
}

abbrev pub starting : ℕ → Known → Known
starting started k = record {
  running = k.running;
  structural = k.structural;
  size = k.size;
  turned = k.turned;
  started = started;
  done = k.done;
  undone = k.undone;
}

-- what the watcher is not told
pub record Holds (t : Taken) (r : Record) : Type 0 where
  pub counts : (t.revision ≡ r.revision) × (t.replacements ≡ r.replacements)
  pub serial : t.serial ≡ r.serial
  pub live : t.live ≡ work_of r.live
  pub closed : t.structural ≡ true → t.turned ≡ false → t.size ≡ 0 → t.closed ≡ leb adopt r.phase.number

pub record Agrees (t : Taken) (w : Watch) (r : Record) : Type 0 where
  pub good : Good w r
  pub same : known_by t ≡ heard_by w
  pub holds : Holds t r

-- part by part
pub record Knows (t : Taken) (w : Watch) : Type 0 where
  pub running : t.running ≡ w.running
  pub structural : t.structural ≡ w.structural
  pub size : t.size ≡ w.size
  pub turned : t.turned ≡ w.turned
  pub started : t.started ≡ w.started
  pub done : t.done ≡ length w.done
  pub undone : t.undone ≡ length w.undone

pub knows : {t : Taken} {w : Watch} {r : Record} → Agrees t w r → Knows t w
knows x = record {
  running = ap (λ (k : Known). k.running) x.same;
  structural = ap (λ (k : Known). k.structural) x.same;
  size = ap (λ (k : Known). k.size) x.same;
  turned = ap (λ (k : Known). k.turned) x.same;
  started = ap (λ (k : Known). k.started) x.same;
  done = ap (λ (k : Known). k.done) x.same;
  undone = ap (λ (k : Known). k.undone) x.same;
}

module _ {t : Taken} {w : Watch} {r : Record} (x : Agrees t w r) where
  pub running : t.running ≡ r.staged
  running = (knows x).running ∙ x.good.tied.running

  pub turned : t.turned ≡ r.restoring
  turned = (knows x).turned ∙ x.good.tied.turning

  fore : {f b n a k : ℕ} {v : Bool} → Course w.structural w.size w.started w.done w.undone f b n a k v → v ≡ false → Fore t f n a k
  fore (ahead e i j p q) h = record {
    done = (knows x).done ∙ ap length p ∙ length_firsts _ _;
    size = (knows x).size ∙ sym i;
    started = (knows x).started ∙ sym j;
    undone = (knows x).undone ∙ ap length q;
  }
  fore (behind e u i p) h = absurd (omega tests)

  aft : {f b n a k : ℕ} {v : Bool} → Course w.structural w.size w.started w.done w.undone f b n a k v → v ≡ true → t.undone + n ≡ t.started + b
  aft (ahead e i j p q) h = absurd (omega tests)
  aft (behind e u i p) h = let l = (knows x).undone ∙ ap length p ∙ length_firsts _ u in omega (arith, l, i, (knows x).started)

  pub numbers : Numbers t r.phase.number r.forward r.back r.entries r.applied r.attempted r.restoring
  numbers = record {
    turning = turned;
    ahead = fore x.good.tied.course;
    behind = aft x.good.tied.course;
    over = λ s e z. x.holds.closed s (turned ∙ e) z;
  }

  pub kind : Kind t.structural r.phase.number
  kind = rw (knows x).structural x.good.tied.kind

  pub by_row : Row t r.phase.number r.attempted r.restoring
  by_row = row t numbers x.good.is_whole.size x.good.is_whole.stage kind
