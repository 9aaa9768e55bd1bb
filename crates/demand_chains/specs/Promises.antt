-- Demands 2 and 3, sentence by sentence, of a record and of what the watcher knows: w is known when r is reached. Assumes nothing.
use Rattle.std.specs.Prelude.{ℕ, ◌+◌, ◌≤◌, ◌≡◌, Bool, true, not, ◌≢◌, eqb, length}
use Rattle.choice.specs.Pick.{◌and◌}
use Rattle.answers.specs.Classes.{successful, granted}
use Rattle.record.specs.Fields.{top}
use Rattle.record.specs.declared.Record.{Record}
use Rattle.calls.specs.Calls.{Call, step}
use Rattle.calls.specs.Calls.Call.{commit, recover_retained}
use Rattle.demand_steps.specs.Knowing.{Watch}
use Rattle.demand_chains.specs.Plans.{planned, plan_at, planned_back, back_at, firsts, due}

-- "a stamp taken in it passes exactly if nothing is staged, the domain is equal and", by request 3, "no commit, recovery or refresh has
-- succeeded since"
unfoldable pub stamp_passes : Bool → ℕ → ℕ → ℕ → Bool
stamp_passes staged domain stampDomain replacements = not staged and eqb domain stampDomain and eqb replacements 0

-- "the revision is the opening one plus the successful commits"
abbrev pub revision_after : ℕ → ℕ → ℕ
revision_after opening commits = opening + commits

-- request 3: "a count of replacements, raised by commit, both recoveries and refresh"
abbrev pub replacements_after : ℕ → ℕ → ℕ
replacements_after opening replacements = opening + replacements

-- "commit succeeds exactly after 5 + n Done reports that are taken (n if update-only), in the fixed order"
pub record Forward (r : Record) (w : Watch) : Type 0 where
  pub order : w.done ≡ firsts (plan_at w.structural w.size) (length w.done)
  pub within : length w.done ≤ planned w.structural w.size
  pub exact : successful (step r commit).class ≡ eqb (length w.done) (planned w.structural w.size)

-- "with k updates started, recovery from the retained payload succeeds exactly after k + 4 further Done reports that are taken (k if
-- update-only), the k undos in reverse order"
pub record Backward (r : Record) (w : Watch) : Type 0 where
  pub order : w.undone ≡ firsts (back_at w.started) (length w.undone)
  pub within : length w.undone ≤ planned_back w.structural w.started
  pub exact : successful (step r recover_retained).class ≡ eqb (length w.undone) (planned_back w.structural w.started)

-- "the due asking of document 01 is granted, unless the serial is at its maximum"
pub record Asking (r : Record) : Type 0 where
  pub call : Call
  pub is_due : due r call ≡ true
  pub is_granted : r.serial ≢ top → granted (step r call).class ≡ true
