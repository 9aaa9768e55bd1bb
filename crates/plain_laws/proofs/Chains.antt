-- After every list of calls, from any record that the engine agrees with, it agrees with the record. Assumes nothing.
use mathlib.Core.List.{List, [], ◌∷◌}
use Rattle.record.specs.Answers.{said_of}
use Rattle.record.specs.declared.Record.{Record}
use Rattle.calls.specs.Calls.{Call, step}
use Rattle.calls.specs.Calls.Work.{structure, update, rollback}
use Rattle.calls.specs.Calls.Report.{structured, updated, rolledBack}
use Rattle.calls.specs.Calls.Call.{begin, ask, report, edit, commit, recover, recover_retained, refresh, stamp, check}
use Rattle.demand_steps.specs.Knowing.{Watch}
use Rattle.demand_steps.specs.Watching.{sees, watch}
use Rattle.demand_steps.proofs.Own.{own}
use Rattle.demand_steps.proofs.Classify.{leaf}
use Rattle.demand_chains.specs.Chains.{after, heard}
use Rattle.demand_chains.proofs.Chain.{undamaged, good_leaf}
use Rattle.plain.specs.declared.Taken.{Taken}
use Rattle.plain.specs.Taking.{takes}
use Rattle.plain_laws.specs.Agreement.{takes_all}
use Rattle.plain_laws.proofs.Knowing.{Agrees}
use Rattle.plain_laws.proofs.Following.{Follows, begin_follows, commit_follows, recover-follows, refresh-follows, retained_follows, edit_follows, stamp_follows, check_follows}
use Rattle.plain_laws.proofs.Asking.{structure_follows, update_follows}
use Rattle.plain_laws.proofs.Turning.{rollback_follows}
use Rattle.plain_laws.proofs.Reporting.{settled-follows, updated-follows, undone-follows}

module _ {t : Taken} {w : Watch} {r : Record} (x : Agrees t w r) where
  follows : (c : Call) → Follows w c (takes t c) (own r c)
  unfolding takes
  follows (begin s b) = begin_follows x s b
  follows (ask structure) = structure_follows x
  follows (ask update) = update_follows x
  follows (ask rollback) = rollback_follows x
  follows (report (structured c o) ticket y) = settled-follows x ticket y c o
  follows (report updated ticket y) = updated-follows x ticket y
  follows (report rolledBack ticket y) = undone-follows x ticket y
  follows (edit c o) = edit_follows x c o
  follows commit = commit_follows x
  follows (recover n) = recover-follows x n
  follows recover_retained = retained_follows x
  follows (refresh n) = refresh-follows x n
  follows (stamp d) = stamp_follows x d
  follows (check d s) = check_follows x d s

  pub agrees_on : (c : Call) → Agrees (takes t c) (sees w c (said_of (step r c))) (step r c).state
  agrees_on c =
      let f : Follows w c (takes t c) (step r c) = rw (undamaged c x.good.is_whole) (follows c) in
      record { good = good_leaf (leaf r c) x.good; same = f.same; holds = f.holds }

pub agrees_after : (cs : List Call) {t : Taken} {w : Watch} {r : Record} → Agrees t w r → Agrees (takes_all t cs) (watch w (heard r cs)) (after r cs)
unfolding takes_all watch heard after
agrees_after [] x = x
agrees_after (c ∷ cs) x = agrees_after cs (agrees_on x c)
