-- The event of a recorded call: it is not bad, and it means the call. Assumes nothing.
use mathlib.Core.Path.{◌≡◌, refl, sym}
use mathlib.Core.Bool.{true, false}
use Rattle.choice.specs.Pick.{pick, ◌and◌, ◌or◌}
use Rattle.choice.proofs.Tests.{never}
use Rattle.record.specs.declared.Outcome.TheVariants.{Waiting, Failed, Done}
use Rattle.calls.specs.Calls.{Call}
use Rattle.calls.specs.Calls.Work.{structure, update, rollback}
use Rattle.calls.specs.Calls.Report.{structured, updated, rolledBack}
use Rattle.calls.specs.Calls.Call.{begin, ask, report, edit, commit, recover, recover_retained, refresh, stamp, check}
use Rattle.calls.specs.Kinds.{kind_of}
use Rattle.input_events.specs.Events.{misused, stray, bad}
use Rattle.input_events.specs.Meaning.{call_by, meant}
use Rattle.replay_laws.specs.Recording.{is_recorded, event_of}

-- what a replay makes of the event of a call
pub record Meant (c : Call) : Type 0 where
  pub good : bad (event_of c) ≡ false
  pub same : meant (event_of c) ≡ c
  pub kind : (event_of c).kind ≡ kind_of c

pub meaning : (c : Call) → is_recorded c ≡ true → Meant c
unfolding bad stray misused ◌and◌ ◌or◌ pick call_by event_of kind_of
meaning (begin true b) h = record { good = refl; same = refl; kind = refl }
meaning (begin false b) h = record { good = refl; same = refl; kind = refl }
meaning (ask structure) h = record { good = refl; same = refl; kind = refl }
meaning (ask update) h = record { good = refl; same = refl; kind = refl }
meaning (ask rollback) h = record { good = refl; same = refl; kind = refl }
meaning (report (structured c o) t Waiting) h = record { good = refl; same = refl; kind = refl }
meaning (report (structured c o) t (Failed code)) h = record { good = refl; same = refl; kind = refl }
meaning (report (structured c o) t Done) h = record { good = refl; same = refl; kind = refl }
meaning (report updated t Waiting) h = record { good = refl; same = refl; kind = refl }
meaning (report updated t (Failed code)) h = record { good = refl; same = refl; kind = refl }
meaning (report updated t Done) h = record { good = refl; same = refl; kind = refl }
meaning (report rolledBack t Waiting) h = record { good = refl; same = refl; kind = refl }
meaning (report rolledBack t (Failed code)) h = record { good = refl; same = refl; kind = refl }
meaning (report rolledBack t Done) h = record { good = refl; same = refl; kind = refl }
meaning commit h = record { good = refl; same = refl; kind = refl }
meaning (recover n) h = record { good = refl; same = refl; kind = refl }
meaning recover_retained h = record { good = refl; same = refl; kind = refl }
meaning (refresh n) h = record { good = refl; same = refl; kind = refl }
meaning (edit c o) h = never (sym h)
meaning (stamp d) h = never (sym h)
meaning (check d s) h = never (sym h)
