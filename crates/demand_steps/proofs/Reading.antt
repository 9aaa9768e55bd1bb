-- What the test of wholeness says, when it passes: the facts of `Whole`. Assumes nothing.
use Prim.Native.Nat.{ℕ, ◌≤◌, ◌<◌}
use mathlib.Core.Path.{◌≡◌, refl}
use mathlib.Core.Bool.{Bool, true, false}
use native.Mathlib.Omega.{arith}
use lib.Dec.{eqb}
use borrow.Author.Tests.{ne_eqb, le-leb, eq-eqb, eqb-true, ltb-true, leb-true, not-true}
use Rattle.choice.specs.Pick.{◌or◌, ◌implies◌}
use Rattle.choice.proofs.Tests.{both, either, follows, join}
use Rattle.phases.specs.Phases.{has_successor}
use Rattle.record.specs.Fields.{top}
use Rattle.record.specs.Given.{standing}
use Rattle.tickets.specs.Live.{work_of, no_ticket}
use Rattle.record.specs.declared.Record.{Record}
use Rattle.tickets.specs.declared.Live.{Live}
use Rattle.tickets.specs.declared.Live.TheVariants.{None, Structure, Update, Rollback}
use Rattle.wholeness.specs.Whole.{whole, lengths_fit, staged_fits, forward_fits, back_fits, restoring_fits, live_fits}
use Rattle.wholeness.proofs.Facts.{Parts, parts, Counts, counts_of}
use Rattle.demand_steps.specs.Typed.{Typed}
use Rattle.demand_steps.proofs.Leaf.{Apart, Lengths}
use Rattle.demand_steps.proofs.Classify.{updates_of}
use Rattle.demand_steps.proofs.Facts.{Ahead, Behind, Turned, Stage, Tick, Calm, Whole, tests, by_case}
use Rattle.demand_steps.proofs.Facts.Stage.{flat, flat_back, before, updating, after, undoing, backing}
use Rattle.demand_steps.proofs.Facts.Calm.{on, off}

ahead_of : (p f : ℕ) → forward_fits p f ≡ true → Ahead p f
unfolding forward_fits
ahead_of p f h =
    either h (λ h8. either h8 (λ h7. either h7 (λ h6. either h6 (λ h5. either h5 (λ h4. either h4 (λ h3. either h3 (λ h2. either h2
    (λ e. omega (tests, both e)) (λ e. omega (tests, both e))) (λ e. omega (tests, both e))) (λ e. omega (tests, both e))) (λ e. omega (tests, both e)))
    (λ e. omega (tests, both e))) (λ e. omega (tests, both e))) (λ e. either (both e).1 (λ x. omega (tests, both e)) (λ x. omega (tests, both e))))
    (λ e. omega (tests, both e))

behind_of : (p b : ℕ) → back_fits p b ≡ true → Behind p b
unfolding back_fits
behind_of p b h =
    either h (λ h4. either h4 (λ h3. either h3 (λ h2. either h2
    (λ e. omega (tests, both e)) (λ e. omega (tests, both e))) (λ e. omega (tests, both e))) (λ e. omega (tests, both e))) (λ e. omega (tests, both e))

-- 6 or 7
six : (p : ℕ) → 6 ≤ p → p ≤ 7 → eqb p 6 or eqb p 7 ≡ true
unfolding ◌or◌
six p h d = by_case p 7 (λ (y : p < 7). simp (eq-eqb p 6 (omega arith))) (λ (y : 7 ≤ p). simp (ne_eqb p 6 (omega arith), eq-eqb p 7 (omega arith)))

turned_of : (v : Bool) (p n a k : ℕ) → restoring_fits v p n a k ≡ true → Turned v p n a k
unfolding restoring_fits
turned_of v p n a k h =
    let x8 = both h in
    let x7 = both x8.0 in
    let x6 = both x7.0 in
    let x5 = both x6.0 in
    let x4 = both x5.0 in
    let x3 = both x4.0 in
    let x2 = both x3.0 in
    record {
      all = λ e. eqb-true _ _ (follows x2.0 e);
      ahead = λ e d. not-true _ (follows x2.1 (join (le-leb _ _ e) (le-leb _ _ d)));
      untried = λ e d. eqb-true _ _ (follows x3.1 (join (le-leb _ _ e) (le-leb _ _ d)));
      some = λ e d. either (follows x4.1 (eq-eqb _ _ e)) (λ i. omega tests) (λ i. omega tests);
      applied = λ e d. eqb-true _ _ (follows x5.1 (six p e d));
      behind = λ e. follows x6.1 (le-leb _ _ e);
      left = λ e. ltb-true _ _ (follows x7.1 (eq-eqb _ _ e));
      empty = λ e. eqb-true _ _ (follows x8.1 (le-leb _ _ e));
    }

at0 : {p f b n a k : ℕ} (v : Bool) → p ≡ 0 → f ≡ 0 → b ≡ 0 → (v ≡ true → k ≡ n) → Stage p f b n a k v
at0 true x y z q = flat_back refl x y z (q refl)
at0 false x y z q = flat refl x y z

-- the row that a record stands in
stage_of_lem : {p f b n a k : ℕ} {v : Bool} → p ≤ 13 → Ahead p f → Behind p b → Turned v p n a k → Counts n a k → Stage p f b n a k v
stage_of_lem {p} {f} {b} {n} {a} {k} {v} m x y z s =
    by_case p 1 (λ (h : p < 1). let e : p ≡ 0 = omega arith in at0 v e (x.start e) (y.early (omega arith)) z.all) (λ (h1 : 1 ≤ p).
    by_case p 5 (λ (h : p < 5). before (z.ahead h1 (omega arith)) h1 (omega arith) (x.early h1 (omega arith)) (y.early (omega arith)) (z.untried h1 (omega arith))) (λ (h5 : 5 ≤ p).
    by_case p 6 (λ (h : p < 6). let e : p ≡ 5 = omega arith in updating (z.ahead h1 (omega arith)) e (x.middle e) (y.early (omega arith)) (z.some e (omega (arith, s)))) (λ (h6 : 6 ≤ p).
    by_case p 8 (λ (h : p < 8). after (z.ahead h1 (omega arith)) h6 (omega arith) (x.late h6 (omega arith)) (y.early (omega arith)) (z.applied h6 (omega arith))) (λ (h8 : 8 ≤ p).
    by_case p 9 (λ (h : p < 9). let e : p ≡ 8 = omega arith in undoing (z.behind h8) e (x.turning e) x.bound (y.early h) (z.left e) (z.all (z.behind h8))) (λ (h9 : 9 ≤ p).
    backing (z.behind h8) h9 m x.bound (y.late h9) (z.empty h9) (z.all (z.behind h8)))))))

pub apart_of : (p : ℕ) → has_successor p ≡ true → Apart p
unfolding has_successor
apart_of p h = either h (λ i. either i (λ e. omega (tests, both e)) (λ e. omega tests)) (λ e. omega (tests, both e))

tick_of : (l : Live) (s : ℕ) (v : Bool) (p n a k : ℕ) → live_fits l s v p n a k ≡ true → Tick l s p n a k v
unfolding live_fits ◌or◌ ◌implies◌
tick_of None s v p n a k h = tt
tick_of (Structure t) s v p n a k h =
    let x = both (both (both h).0).0 in
    let y = both x.0 in
    record { number = eqb-true _ _ y.0; real = leb-true _ _ y.1; apart = apart_of p x.1 }
tick_of (Update t) s v p n a k h =
    let x = both (both h).0 in
    let y = both (both x.0).0 in
    let z = both x.1 in
    let u = both z.0 in
    record { number = eqb-true _ _ y.0; real = leb-true _ _ y.1; place = updates_of p u.0; ahead = not-true _ u.1; tried = eqb-true _ _ z.1 }
tick_of (Rollback t) s v p n a k h =
    let x = both h in
    let y = both (both (both x.0).0).0 in
    let z = both x.1 in
    record { number = eqb-true _ _ y.0; real = leb-true _ _ y.1; behind = z.0; some = ltb-true _ _ z.1 }

no_ticket_of : (l : Live) → eqb (work_of l) no_ticket ≡ true → l ≡ None
no_ticket_of None e = refl
no_ticket_of (Structure t) e = absurd (omega tests)
no_ticket_of (Update t) e = absurd (omega tests)
no_ticket_of (Rollback t) e = absurd (omega tests)

calm_of : (s : Bool) (v c p n : ℕ) (l : Live) → v ≤ top → c ≤ top → staged_fits s v c p n l ≡ true → Calm s v c p n l
unfolding staged_fits ◌or◌ ◌implies◌
calm_of true v c p n l m k h = let x = both (both h).0 in on refl (ltb-true _ _ x.0) (ltb-true _ _ x.1)
calm_of false v c p n l m k h = let x = both (both h).1 in let y = both x.0 in off refl m k (eqb-true _ _ y.0) (eqb-true _ _ y.1) (no_ticket_of l x.1)

lengths_of : (a c o : ℕ) → lengths_fit a c o ≡ true → Lengths a c o
unfolding lengths_fit
lengths_of a c o h = let x = both h in let y = both x.0 in record { accepted = leb-true _ _ y.0; candidate = leb-true _ _ y.1; recovery = leb-true _ _ x.1 }

pub whole_facts : (r : Record) → Typed (standing r) → whole r ≡ true → Whole r
whole_facts r m h =
    let x : Parts r = parts h in
    let s : Counts r.entries r.applied r.attempted = counts_of _ _ _ x.counts in
    record {
      lengths = lengths_of _ _ _ x.lengths;
      size = s;
      stage = stage_of_lem (leb-true _ _ x.phase) (ahead_of _ _ x.forward) (behind_of _ _ x.back) (turned_of _ _ _ _ _ x.restoring) s;
      ticket = tick_of _ _ _ _ _ _ _ x.live;
      calm = calm_of _ _ _ _ _ _ m.revision m.replacements x.staging;
    }
