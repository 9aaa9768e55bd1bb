-- A granted rollback stays granted, with as many updates started, until a recovery is performed; commit is refused. Assumes nothing.
use Prim.Native.Nat.{ℕ}
use mathlib.Core.Path.{◌≡◌, refl, sym, ◌∙◌, ap}
use mathlib.Core.Bool.{true, false}
use mathlib.Core.List.{List, [], ◌∷◌}
use borrow.Author.Tests.{not-true, not-false}
use Rattle.choice.specs.Pick.{pick, ◌and◌, ◌or◌}
use Rattle.choice.proofs.Tests.{never, both, neither}
use Rattle.answers.specs.Classes.{successful}
use Rattle.answers.specs.Answers.{Said}
use Rattle.record.specs.Answers.{Told, said_of}
use Rattle.record.specs.Given.Effect.{works}
use Rattle.record.specs.declared.Record.{Record}
use Rattle.answers.specs.declared.Refusal.TheVariants.{NotReady}
use Rattle.completeness.specs.Complete.{complete}
use Rattle.step_ends.specs.Ending.{commit_bars, commit_own}
use Rattle.calls.specs.Calls.{Report, Call, step}
use Rattle.calls.specs.Calls.Call.{commit}
use Rattle.calls.specs.Kinds.{kind_of}
use Rattle.demand_chains.specs.Sending.{Sent, answered, after_sent, heard_sent}
use Rattle.demand_steps.specs.Knowing.{hears, Watch}
use Rattle.demand_steps.specs.Watching.{hears_report, sees, watch}
use Rattle.demand_chains.specs.Turning.{recovers, recovered_in, UntilRecovery}
use Rattle.demand_steps.proofs.Own.{own, row}
use Rattle.demand_steps.proofs.Leaf.{Leaf}
use Rattle.demand_steps.proofs.Leaf.Leaf.{kept, began, structure_asked, update_ended, update_asked, rollback_ended, turned_empty, turned_asked, waited, went, update_taken, undo_taken, committed, recovered, restored, refreshed}
use Rattle.demand_steps.proofs.Facts.{Whole}
use Rattle.demand_steps.proofs.Keeping.{report_keeps}
use Rattle.demand_chains.proofs.Noting.{Tied}
use Rattle.demand_chains.proofs.Sending.{sent_answers, sent_leaf}
use Rattle.demand_chains.proofs.Chain.{Good, good_leaf, undamaged}
use Rattle.demand_chains.proofs.Granting.{clash}

-- a commit that is sent while restoring is refused, whatever it is lent
abbrev Unperformed : Told → Type 0
Unperformed x = successful x.class ≡ false

module _ (r : Record) (v : r.restoring ≡ true) where
  own_shut : Unperformed (own r commit)
  unfolding own commit_own complete
  own_shut = row Unperformed r (λ why. refl) (commit_bars r) (λ f. clash _ v (not-true _ (both (not-false _ (neither (f NotReady)).0)).0))

  sent_shut : (s : Sent) → s.call ≡ commit → Unperformed (answered r s)
  sent_shut s e = sent_answers Unperformed r (λ why. refl) s (λ w. rw e own_shut)

-- what the watcher knows stays
record Stays (w later : Watch) : Type 0 where
  running : later.running ≡ true
  turned : later.turned ≡ true
  structural : later.structural ≡ w.structural
  started : later.started ≡ w.started

report_stays : (of : Report) (t : ℕ) (a : Said) (w : Watch) → w.running ≡ true → w.turned ≡ true → Stays w (hears_report of t works a w)
report_stays of t a w i v = record {
  running = report_keeps (λ (x : Watch). x.running) (λ d u x. refl) of t a w ∙ i;
  turned = report_keeps (λ (x : Watch). x.turned) (λ d u x. refl) of t a w ∙ v;
  structural = report_keeps (λ (x : Watch). x.structural) (λ d u x. refl) of t a w;
  started = report_keeps (λ (x : Watch). x.started) (λ d u x. refl) of t a w;
}

module _ {r : Record} (w : Watch) (d : Tied w r) (i : w.running ≡ true) (v : w.turned ≡ true) where
  alike : Stays w w
  alike = record { running = i; turned = v; structural = refl; started = refl }

  stays : {c : Call} {x : Told} → Leaf r c x → (c ≡ commit → Unperformed x) → recovers (hears c x) ≡ false → Stays w (sees w c (said_of x))
  unfolding sees kind_of pick ◌or◌ ◌and◌
  stays (kept u f) m n = rw (u w) alike
  stays (began j l k f q) m n = clash _ (sym d.running ∙ i) j
  stays (structure_asked y) m n = record { running = i; turned = v; structural = refl; started = refl }
  stays (update_ended u e s) m n = alike
  stays (update_asked u e s) m n = clash _ (sym d.turning ∙ v) e
  stays (rollback_ended p) m n = record { running = i; turned = refl; structural = refl; started = refl }
  stays (turned_empty p z) m n = record { running = i; turned = refl; structural = refl; started = refl }
  stays (turned_asked p z) m n = record { running = i; turned = refl; structural = refl; started = refl }
  stays (waited u f) m n = rw (u w) alike
  stays (went {t = t} o l f) m n = report_stays _ t _ w i v
  stays (update_taken {t = t} o l g) m n = report_stays _ t _ w i v
  stays (undo_taken {t = t} o l g) m n = report_stays _ t _ w i v
  stays (committed j) m n = never (m refl)
  stays (recovered e j) m n = never n
  stays (restored e) m n = never n
  stays (refreshed e k j) m n = record { running = i; turned = v; structural = refl; started = refl }

commit_shut : {r : Record} → Whole r → r.staged ≡ true → r.restoring ≡ true → (step r commit).number ≡ 4
unfolding own commit_own complete pick ◌and◌ ◌or◌
commit_shut w e v = ap (λ (t : Told). t.number) (undamaged commit w) ∙ rw (e, v)

-- with no recovery among the calls
pub turned_law : (w : Watch) (r : Record) (ss : List Sent) → Good w r → w.running ≡ true → w.turned ≡ true → recovered_in (heard_sent r ss) ≡ false →
    UntilRecovery w (watch w (heard_sent r ss)) (after_sent r ss)
unfolding recovered_in heard_sent after_sent watch
turned_law w r [] g i v n =
    record { running = i; turned = v; structural = refl; started = refl; uncommitted = commit_shut g.is_whole (sym g.tied.running ∙ i) (sym g.tied.turning ∙ v) }
turned_law w r (s ∷ ss) g i v n =
    let l = sent_leaf r s in
    let q = neither n in
    let x = stays w g.tied i v l (sent_shut r (sym g.tied.turning ∙ v) s) q.0 in
    let y = turned_law (sees w s.call (said_of (answered r s))) (answered r s).state ss (good_leaf l g) x.running x.turned q.1 in
    record { running = y.running; turned = y.turned; structural = y.structural ∙ x.structural; started = y.started ∙ x.started; uncommitted = y.uncommitted }
