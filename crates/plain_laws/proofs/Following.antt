-- The engine follows the record through a call that begins or ends a transaction, or leaves it. Assumes nothing.
use Prim.Native.Nat.{ℕ, ◌+◌}
use mathlib.Core.Path.{◌≡◌, refl, sym, ◌∙◌, ap, subst}
use mathlib.Core.Bool.{Bool, true, false, not}
use lib.Dec.{eqb, leb}
use Rattle.choice.specs.Pick.{pick, ◌and◌, ◌or◌}
use Rattle.choice.proofs.Picks.{picked, each}
use Rattle.choice.proofs.Tests.{never, and_true}
use Rattle.areas.specs.Areas.{long}
use Rattle.record.specs.Answers.{Told, said_of, answer, refuse}
use Rattle.record.specs.Given.{opening}
use Rattle.record.specs.Fields.{top}
use Rattle.record.specs.declared.Record.{Record}
use Rattle.record.specs.declared.Beginning.{Beginning}
use Rattle.answers.specs.declared.Answer.TheVariants.{Done}
use Rattle.answers.specs.declared.Was.TheVariants.{Nothing}
use Rattle.answers.specs.declared.Refusal.{Refusal}
use Rattle.answers.specs.declared.Refusal.TheVariants.{Pending, Idle, NotReady, LongSnapshot}
use Rattle.step_begins.specs.Beginning.{first_phase, begun, begin_bars, begin_own, edit_bars, edit_own}
use Rattle.step_ends.specs.Ending.{commit_own, refresh_bars, refresh_own}
use Rattle.step_recoveries.specs.Recovering.{unrestored, after_recovery, recover_own, recover_retained_own}
use Rattle.step_stamps.specs.Stamping.{passes}
use Rattle.step_stamps.specs.declared.SaveStamp.{SaveStamp}
use Rattle.calls.specs.Calls.{Call}
use Rattle.calls.specs.Calls.Call.{begin, edit, commit, recover, recover_retained, refresh, stamp, check}
use Rattle.demand_steps.specs.Knowing.{Watch}
use Rattle.demand_steps.specs.Watching.{sees}
use Rattle.demand_steps.proofs.Own.{own, row}
use Rattle.demand_steps.proofs.Unseen.{unseen}
use Rattle.plain.specs.declared.Taken.{Taken}
use Rattle.plain.specs.Plain.{commit_allowed, recovery_allowed}
use Rattle.plain.specs.Taking.{fresh, ends, replaced, no_begin, takes_begin, takes_commit, takes_recovery, takes_refresh, takes}
use Rattle.plain_laws.specs.Known.{known_by, heard_by}
use Rattle.plain_laws.proofs.Knowing.{Holds, Agrees, running}
use Rattle.plain_laws.proofs.Allowing.{incomplete, commit_test, recovery_test}
use Rattle.plain_laws.proofs.Barring.{one_of, one_test}

-- after a call: what the watcher has heard of it, and the record that it left
pub record Follows (w : Watch) (c : Call) (t : Taken) (x : Told) : Type 0 where
  pub same : known_by t ≡ heard_by (sees w c (said_of x))
  pub holds : Holds t x.state

-- a refusal is heard by nobody
pub stays : {t : Taken} {w : Watch} {r : Record} {c : Call} → known_by t ≡ heard_by w → Holds t r → (why : Refusal) → Follows w c t (refuse why r)
stays {w = w} {c = c} k h why = record { same = k ∙ ap heard_by (sym (unseen c why w)); holds = h }

-- "phase 0, or 1 for structural"
at_first : (s : Bool) → s ≡ true → false ≡ leb 6 (first_phase s)
unfolding first_phase pick
at_first true e = refl
at_first false e = never (sym e)

module _ {t : Taken} {w : Watch} {r : Record} (x : Agrees t w r) where
  refuses : {c : Call} (why : Refusal) → Follows w c t (refuse why r)
  refuses = stays x.same x.holds

  begun_follows : (s : Bool) (b : Beginning) → Follows w (begin s b) (fresh t.revision t.replacements true s b.actions t) (answer (Done Nothing) (begun (first_phase s) b r))
  unfolding sees fresh begun pick
  begun_follows s b = record {
    same = refl;
    holds = record { counts = x.holds.counts; serial = x.holds.serial; live = refl; closed = λ e v z. at_first s e };
  }

  pub begin_follows : (s : Bool) (b : Beginning) → Follows w (begin s b) (takes t (begin s b)) (own r (begin s b))
  unfolding takes takes_begin no_begin own begin_own one_of pick ◌or◌
  begin_follows s b =
      one_test (λ no y. Follows w (begin s b) (pick no t (fresh t.revision t.replacements true s b.actions t)) y) r refuses (begin_bars r b)
      (no_begin b t) (rw (running x, x.holds.counts.0, x.holds.counts.1)) (λ f. begun_follows s b)

  -- refused 2, and then 4 if u, and then 16 if l
  closing : {c : Call} {g : Taken} {y : Told} (b s u l : Bool) → b ≡ s and not u → Follows w c g y →
      Follows w c (pick (b and not l) g t) (pick (not s) (refuse Idle r) (pick u (refuse NotReady r) (pick l (refuse LongSnapshot r) y)))
  unfolding pick ◌and◌
  closing b true true l e f = rw e (refuses NotReady)
  closing b true false true e f = rw e (refuses LongSnapshot)
  closing b true false false e f = rw e f
  closing b false u l e f = rw e (refuses Idle)

  pub commit_follows : Follows w commit (takes t commit) (own r commit)
  unfolding takes takes_commit own commit_own sees opening fresh pick
  commit_follows =
      subst (λ b. Follows w commit (pick b (ends (t.revision + 1) t) t) (own r commit)) (sym (and_true (commit_allowed t)))
      (closing (commit_allowed t) r.staged (incomplete r) false (commit_test x) (record {
        same = refl;
        holds = record {
          counts = (ap (λ (i : ℕ). i + 1) x.holds.counts.0, ap (λ (i : ℕ). i + 1) x.holds.counts.1);
          serial = x.holds.serial;
          live = refl;
          closed = λ e v z. never (sym e);
        };
      }))

  module _ (n : ℕ) where
    recovered : Holds (ends t.revision t) (opening (after_recovery r) n)
    unfolding opening fresh
    recovered = record {
      counts = (x.holds.counts.0, ap (λ (i : ℕ). i + 1) x.holds.counts.1);
      serial = x.holds.serial;
      live = refl;
      closed = λ e v z. never (sym e);
    }

    pub recover-follows : Follows w (recover n) (takes t (recover n)) (own r (recover n))
    unfolding takes takes_recovery own recover_own sees fresh pick
    recover-follows = closing (recovery_allowed t) r.staged (unrestored r) (long n) (recovery_test x)
        (record { same = refl; holds = recovered })

    pub refresh-follows : Follows w (refresh n) (takes t (refresh n)) (own r (refresh n))
    unfolding takes takes_refresh replaced own refresh_own one_of sees pick ◌or◌
    refresh-follows =
        one_test (λ no y. Follows w (refresh n) (pick no t (replaced t)) y) r refuses (refresh_bars r n)
        (t.running or eqb t.replacements top or long n) (rw (running x, x.holds.counts.1)) (λ f. record {
          same = x.same;
          holds = record { counts = (x.holds.counts.0, ap (λ (i : ℕ). i + 1) x.holds.counts.1); serial = x.holds.serial; live = x.holds.live; closed = x.holds.closed };
        })

  pub retained_follows : Follows w recover_retained (takes t recover_retained) (own r recover_retained)
  unfolding takes takes_recovery own recover_retained_own sees fresh pick long
  retained_follows = closing (recovery_allowed t) r.staged (unrestored r) false (recovery_test x)
      (record { same = refl; holds = recovered r.recovery })

  -- payloads are replaced, which the engine does not look at
  pub edit_follows : (c o : ℕ) → Follows w (edit c o) t (own r (edit c o))
  unfolding own edit_own sees
  edit_follows c o = row (Follows w (edit c o) t) r refuses (edit_bars r c o) (λ f. record { same = x.same; holds = record { counts = x.holds.counts; serial = x.holds.serial; live = x.holds.live; closed = x.holds.closed } })

  pub stamp_follows : (d : ℕ) → Follows w (stamp d) t (own r (stamp d))
  unfolding own sees
  stamp_follows d = picked (Follows w (stamp d) t) r.staged (λ e. refuses Pending) (λ e. record { same = x.same; holds = x.holds })

  pub check_follows : (d : ℕ) (s : SaveStamp) → Follows w (check d s) t (own r (check d s))
  unfolding own sees
  check_follows d s = each (Follows w (check d s) t) (passes r d s) (record { same = x.same; holds = x.holds }) (record { same = x.same; holds = x.holds })
