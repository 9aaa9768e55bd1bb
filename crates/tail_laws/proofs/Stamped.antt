-- "How do you know that this file is the one you read yesterday?": with a stamp that was taken before the settings were replaced nothing is
-- found, whatever calls came between. Assumes nothing.
use Prim.Native.Nat.{ℕ}
use mathlib.Core.Path.{◌≡◌, ◌∙◌}
use mathlib.Core.List.{List}
use mathlib.Core.Logic.{◌≢◌}
use borrow.Author.Tests.{ne_eqb}
use Rattle.std.specs.Prelude.{Ok, Err}
use Rattle.choice.proofs.Tests.{no_right}
use Rattle.record.specs.Answers.{said_of}
use Rattle.record.specs.Given.{standing}
use Rattle.record.specs.declared.Record.{Record}
use Rattle.step_stamps.specs.Stamping.{says_stamping}
use Rattle.step_stamps.specs.declared.SaveStamp.{SaveStamp}
use Rattle.calls.specs.Calls.{step}
use Rattle.calls.specs.Calls.Call.{stamp}
use Rattle.demand_steps.specs.Typed.{Typed}
use Rattle.demand_steps.specs.Knowing.{unwatched}
use Rattle.demand_steps.specs.Watching.{watch}
use Rattle.demand_chains.specs.Sending.{Sent, after_sent, heard_sent}
use Rattle.demand_chains.specs.Promises.{stamp_passes}
use Rattle.demand_chains.proofs.Stamps.{since_whole, since_passes}
use Rattle.tail_answers.specs.declared.TailRefusal.TheVariants.{Unstamped}
use Rattle.tail_table.specs.TailCalls.{find_of}
use Rattle.tail_table.specs.declared.Tail.{Tail}
use Rattle.tail_table.specs.declared.File.{File}
use Rattle.tail_laws.proofs.Tables.{Leaves}
use Rattle.tail_laws.proofs.Findings.{unfound_unstamped}

-- a stamp s of the domain d is taken at r; then the calls ss are made, and a commit, a recovery or a refresh among them succeeds
pub old_stamp_finds_nothing : (r : Record) (d : ℕ) (s : SaveStamp) (ss : List Sent) (e : ℕ) → Typed (standing r) → said_of (step r (stamp d)) ≡ says_stamping (Ok s) →
    (watch unwatched (heard_sent r ss)).replacements ≢ 0 → {words : List ℕ} {used : ℕ} {us : List Tail} → Leaves words used us → (f : File) (size : ℕ) →
    find_of words used f size (record { «record» = after_sent r ss; domain = e; stamp = s }) ≡ Err Unstamped
unfolding stamp_passes
old_stamp_finds_nothing r d s ss e m h n v f size =
    unfound_unstamped v f size _ (since_whole r d s ss e m h) (since_passes r d s ss e m h ∙ no_right _ (ne_eqb _ _ n))
