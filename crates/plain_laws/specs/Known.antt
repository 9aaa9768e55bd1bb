-- What the plain engine, which hears no answers, and the watcher of the chain theorems, who hears them, both know of a transaction.
-- Assumes nothing.
use Rattle.std.specs.Prelude.{ℕ, ◌≡◌, Bool, true, false, length}
use Rattle.demand_steps.specs.Knowing.{Watch}
use Rattle.demand_chains.specs.Plans.{plan_at, back_at, firsts}
use Rattle.plain.specs.declared.Taken.{Taken}

-- whether one runs, whether it is structural, its number of updates; whether a rollback was granted, the updates started; and how many
-- Done reports were taken, until a rollback was granted and since
pub record Known : Type 0 where
  pub running : Bool
  pub structural : Bool
  pub size : ℕ
  pub turned : Bool
  pub started : ℕ
  pub done : ℕ
  pub undone : ℕ

abbrev pub known_by : Taken → Known
known_by t = record {
  running = t.running;
  structural = t.structural;
  size = t.size;
  turned = t.turned;
  started = t.started;
  done = t.done;
  undone = t.undone;
}

abbrev pub heard_by : Watch → Known
heard_by w = record {
  running = w.running;
  structural = w.structural;
  size = w.size;
  turned = w.turned;
  started = w.started;
  done = length w.done;
  undone = length w.undone;
}

-- so that the engine's counts tell what the Done reports were for, which the watcher has heard: "in the fixed order", and "the k undos in
-- reverse order"
pub record Ordered (t : Taken) (w : Watch) : Type 0 where
  pub forward : t.running ≡ true → t.turned ≡ false → w.done ≡ firsts (plan_at t.structural t.size) t.done
  pub back : t.running ≡ true → t.turned ≡ true → w.undone ≡ firsts (back_at t.started) t.undone
