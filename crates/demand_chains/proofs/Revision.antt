-- What holds of every chain from any record: the revision is the first one plus the successful commits, the count of replacements the first
-- one plus the successful commits, recoveries and refreshes, and a watcher who knows whether something is staged goes on knowing it,
-- whatever else was not told. Assumes nothing.
use Prim.Native.Nat.{ℕ, ◌+◌, ◌≤◌}
use mathlib.Core.Path.{◌≡◌, refl, sym, ◌∙◌}
use mathlib.Core.List.{List, []}
use native.Mathlib.Omega.{arith}
use Rattle.choice.specs.Pick.{pick}
use Rattle.phases.specs.Phases.{successor}
use Rattle.answers.specs.Classes.{StepAnswer}
use Rattle.answers.specs.Classes.Class.{stepping}
use Rattle.answers.specs.Answers.{said}
use Rattle.record.specs.Answers.{Told, said_of}
use Rattle.record.specs.Given.Effect.{works}
use Rattle.record.specs.Fields.{adopting}
use Rattle.record.specs.declared.Record.{Record}
use Rattle.step_begins.specs.Beginning.{begun}
use Rattle.step_rollbacks.specs.Rollbacks.{turned}
use Rattle.step_structure.specs.Structure.{advanced}
use Rattle.record.specs.Given.{opening}
use Rattle.calls.specs.Calls.{Report, Call}
use Rattle.demand_chains.specs.Sending.{Sent, after_sent, heard_sent}
use Rattle.demand_steps.specs.Knowing.{Watch}
use Rattle.demand_steps.specs.Watching.{hears_report, sees, watch}
use Rattle.demand_steps.proofs.Keeping.{report_keeps, onward_keeps}
use Rattle.demand_steps.proofs.Leaf.{Leaf}
use Rattle.demand_steps.proofs.Leaf.Leaf.{kept, began, structure_asked, update_ended, update_asked, rollback_ended, turned_empty, turned_asked, waited, went, update_taken, undo_taken, committed, recovered, restored, refreshed}
use Rattle.demand_chains.proofs.Sending.{chain_keeps}

-- one call, from the record r to q: what revision and count gain is what the watcher counts, and every commit is a replacement
record Known (r q : Record) (w later : Watch) : Type 0 where
  runs : w.running ≡ r.staged → later.running ≡ q.staged
  gains : q.revision + w.commits ≡ r.revision + later.commits
  counts : q.replacements + w.replacements ≡ r.replacements + later.replacements
  covers : later.commits + w.replacements ≤ w.commits + later.replacements

-- most calls leave all of it as it was
abbrev Stays : Record → Record → Type 0
Stays r q = (q.staged ≡ r.staged) × (q.revision ≡ r.revision) × (q.replacements ≡ r.replacements)

abbrev Unmoved : Watch → Watch → Type 0
Unmoved w later = (later.running ≡ w.running) × (later.commits ≡ w.commits) × (later.replacements ≡ w.replacements)

alike : {r q : Record} {w later : Watch} → Stays r q → Unmoved w later → Known r q w later
alike s u = record { runs = λ h. u.0 ∙ h ∙ sym s.0; gains = omega (arith, s, u); counts = omega (arith, s, u); covers = omega (arith, u) }

reports : {r q : Record} (of : Report) (t : ℕ) (s : StepAnswer) (w : Watch) → Stays r q → Known r q w (hears_report of t works (said (stepping s) []) w)
reports of t s w e = alike e (
  report_keeps (λ (x : Watch). x.running) (λ d u x. refl) of t _ w,
  report_keeps (λ (x : Watch). x.commits) (λ d u x. refl) of t _ w,
  report_keeps (λ (x : Watch). x.replacements) (λ d u x. refl) of t _ w,
)

known : {r : Record} {c : Call} {x : Told} (w : Watch) → Leaf r c x → Known r x.state w (sees w c (said_of x))
unfolding sees begun turned adopting opening advanced pick
known w (kept u f) = rw (u w) (alike (refl, refl, refl) (refl, refl, refl))
known w (began i l k f m) = record { runs = λ h. refl; gains = refl; counts = refl; covers = omega arith }
known w (structure_asked y) = alike (refl, refl, refl) (refl, refl, refl)
known w (update_ended u e s) = alike (refl, refl, refl) (refl, refl, refl)
known w (update_asked u e n) = alike (refl, refl, refl) (refl, refl, refl)
known w (rollback_ended p) = alike (refl, refl, refl) (refl, refl, refl)
known w (turned_empty p n) = alike (refl, refl, refl) (refl, refl, refl)
known w (turned_asked p n) = alike (refl, refl, refl) (refl, refl, refl)
known w (waited u f) = rw (u w) (alike (refl, refl, refl) (refl, refl, refl))
known {r} w (went {t = t} {s = s} o l f) = let n = successor r.phase.number in reports _ t s w (
  onward_keeps (λ (x : Record). x.staged) (λ p a b x. refl) n _,
  onward_keeps (λ (x : Record). x.revision) (λ p a b x. refl) n _,
  onward_keeps (λ (x : Record). x.replacements) (λ p a b x. refl) n _,
)
known w (update_taken {t = t} {s = s} o l g) = reports _ t s w (refl, refl, refl)
known w (undo_taken {t = t} {s = s} o l g) = reports _ t s w (refl, refl, refl)
known w (committed i) = record { runs = λ h. refl; gains = omega arith; counts = omega arith; covers = omega arith }
known w (recovered e i) = record { runs = λ h. refl; gains = refl; counts = omega arith; covers = omega arith }
known w (restored e) = record { runs = λ h. refl; gains = refl; counts = omega arith; covers = omega arith }
known w (refreshed e k i) = record { runs = λ h. h; gains = refl; counts = omega arith; covers = omega arith }

module _ (w : Watch) (r : Record) (ss : List Sent) where
  abbrev later : Watch
  later = watch w (heard_sent r ss)

  pub chain_runs : w.running ≡ r.staged → later.running ≡ (after_sent r ss).staged
  chain_runs = chain_keeps (λ x q. x.running ≡ q.staged) (λ x q c t l h. (known x l).runs h) w r ss

  pub chain_gains : (after_sent r ss).revision + w.commits ≡ r.revision + later.commits
  chain_gains = chain_keeps (λ x q. q.revision + w.commits ≡ r.revision + x.commits) (λ x q c t l h. omega (arith, (known x l).gains)) w r ss refl

  pub chain_counts : (after_sent r ss).replacements + w.replacements ≡ r.replacements + later.replacements
  chain_counts =
      chain_keeps (λ x q. q.replacements + w.replacements ≡ r.replacements + x.replacements) (λ x q c t l h. omega (arith, (known x l).counts)) w r ss refl

  pub chain_covers : later.commits + w.replacements ≤ w.commits + later.replacements
  chain_covers =
      chain_keeps (λ x q. x.commits + w.replacements ≤ w.commits + x.replacements) (λ x q c t l h. omega (arith, (known x l).covers)) w r ss (omega arith)
