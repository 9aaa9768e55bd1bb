-- Demand 2, by request 3: a stamp that was taken passes exactly if nothing is staged, the domain is equal and no commit, recovery or
-- refresh has succeeded since. Assumes nothing.
use Prim.Native.Nat.{ℕ, ◌+◌, ◌≤◌}
use mathlib.Core.Path.{◌≡◌, refl, sym, ◌∙◌, ap}
use mathlib.Core.Bool.{Bool, true, false, not}
use mathlib.Core.List.{List, [], ◌∷◌}
use native.Mathlib.Omega.{arith}
use lib.Dec.{eqb}
use lib.ListN.{get_or}
use borrow.Author.Tests.{eq-eqb, ne_eqb}
use Rattle.std.specs.Prelude.{Ok}
use Rattle.choice.specs.Pick.{pick, ◌and◌}
use Rattle.choice.proofs.Picks.{picked}
use Rattle.choice.proofs.Tests.{never, test, eqb_ne, tests, no_right, and_true}
use Rattle.answers.specs.Classes.{refused}
use Rattle.answers.specs.Classes.Class.{performed}
use Rattle.answers.specs.Answers.{Said, said}
use Rattle.record.specs.Answers.{Told, told, said_of, refuse}
use Rattle.record.specs.Given.{standing}
use Rattle.record.specs.declared.Record.{Record}
use Rattle.answers.specs.declared.Refusal.{Refusal}
use Rattle.wholeness.specs.Whole.{whole}
use Rattle.step_stamps.specs.Stamping.{says_stamping, says_checked, stamp_of, passes}
use Rattle.step_stamps.specs.declared.SaveStamp.{SaveStamp}
use Rattle.calls.specs.Calls.{step}
use Rattle.calls.specs.Calls.Call.{stamp, check}
use Rattle.demand_chains.specs.Sending.{Sent, after_sent, heard_sent}
use Rattle.demand_steps.specs.Typed.{Typed}
use Rattle.demand_steps.specs.Knowing.{Watch, unwatched}
use Rattle.demand_steps.specs.Watching.{watch}
use Rattle.demand_chains.specs.Promises.{stamp_passes}
use Rattle.demand_steps.proofs.Own.{own, whole_step, answers}
use Rattle.demand_chains.proofs.Chain.{whole_chain}
use Rattle.demand_chains.proofs.Revision.{chain_runs, chain_gains, chain_counts, chain_covers}

-- a stamp that was taken is of a whole record that is not staged, and carries its revision and its count of replacements
record Stamped (r : Record) (d : ℕ) (s : SaveStamp) : Type 0 where
  is_whole : whole r ≡ true
  idle : r.staged ≡ false
  is : s ≡ stamp_of d r

-- the stamp again, from what was said
heard_stamp : Said → SaveStamp
heard_stamp a = record { domain = get_or a.values 0 0; revision = get_or a.values 1 0; replacements = get_or a.values 2 0 }

abbrev Stamping : Record → ℕ → SaveStamp → Told → Type 0
Stamping r d s x = said_of x ≡ says_stamping (Ok s) → Stamped r d s

stamped : (r : Record) (d : ℕ) (s : SaveStamp) → Stamping r d s (step r (stamp d))
unfolding own heard_stamp
stamped r d s = answers (Stamping r d s) r refuses true true (stamp d) (λ w. picked (Stamping r d s) r.staged (λ i. refuses _) (λ i h.
    record { is_whole = w; idle = i; is = sym (ap heard_stamp h) }))
  where
    refuses : (why : Refusal) → Stamping r d s (refuse why r)
    refuses why h = never (ap (λ (a : Said). refused a.class) h)

-- what a check answers on a whole record
inside : (b : Bool) (r : Record) → said_of (pick b (told (says_checked (Ok true)) r) (told (says_checked (Ok false)) r)) ≡ said performed (pick b 1 0 ∷ [])
unfolding pick
inside true r = refl
inside false r = refl

checked : (r : Record) (e : ℕ) (s : SaveStamp) → whole r ≡ true → said_of (step r (check e s)) ≡ said performed (pick (passes r e s) 1 0 ∷ [])
unfolding own
checked r e s w = ap said_of (whole_step r (check e s) w) ∙ inside (passes r e s) r

-- two numbers that differ by a count are equal exactly if it is 0; and so are two more that differ by no more than it
same_by : (b : Bool) (x y u v c n : ℕ) → x ≡ y + c → u ≡ v + n → c ≤ n → b and eqb x y and eqb u v ≡ b and eqb n 0
same_by b x y u v c n h k m = test (eqb n 0)
    (λ (e : eqb n 0 ≡ true). rw (eq-eqb x y (omega tests), eq-eqb u v (omega tests), e) (sym (and_true (b and true))))
    (λ (e : eqb n 0 ≡ false). no_right (b and eqb x y) (ne_eqb u v (λ (i : u ≡ v). eqb_ne n 0 e (omega tests))) ∙ sym (no_right b e))

module _ (r : Record) (d : ℕ) (s : SaveStamp) (ss : List Sent) (e : ℕ) (m : Typed (standing r)) (h : said_of (step r (stamp d)) ≡ says_stamping (Ok s)) where
  -- what the watcher knows who hears the calls since
  abbrev w : Watch
  w = watch unwatched (heard_sent r ss)

  pub since_whole : whole (after_sent r ss) ≡ true
  since_whole = whole_chain r ss m (stamped r d s h).is_whole

  -- the law of both that follow
  since : passes (after_sent r ss) e s ≡ stamp_passes w.running e d w.replacements
  unfolding passes unwatched stamp_passes
  since =
      let t = stamped r d s h in
      let g = chain_gains unwatched r ss in
      let k = chain_counts unwatched r ss in
      let v = chain_covers unwatched r ss in
      let q : Record = after_sent r ss in
      ap (passes q e) t.is
      ∙ ap (λ (b : Bool). not b and eqb e d and eqb q.revision r.revision and eqb q.replacements r.replacements) (sym (chain_runs unwatched r ss (sym t.idle)))
      ∙ same_by _ q.revision _ q.replacements _ w.commits w.replacements (omega arith) (omega arith) (omega arith)

  pub since_passes : passes (after_sent r ss) e s ≡ stamp_passes w.running e d w.replacements
  since_passes = since

  pub stamp_law : said_of (step (after_sent r ss) (check e s)) ≡ said performed (pick (stamp_passes w.running e d w.replacements) 1 0 ∷ [])
  stamp_law = checked (after_sent r ss) e s since_whole ∙ ap (λ (b : Bool). said performed (pick b 1 0 ∷ [])) since
