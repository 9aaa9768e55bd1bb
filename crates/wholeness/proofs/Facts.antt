-- What a whole record's tests say as facts of its fields, as far as the steps need them. Assumes nothing.
use Prim.Native.Nat.{ℕ, ◌≤◌, ◌<◌, ◌+◌}
use mathlib.Core.Path.{◌≡◌}
use mathlib.Core.Bool.{Bool, true}
use lib.Dec.{leb}
use borrow.Author.Tests.{eqb-true, ltb-true}
use Rattle.choice.proofs.Tests.{both, either, follows, tests}
use Rattle.phases.specs.Phases.{has_successor, recovered}
use Rattle.batch.specs.Batch.{limit}
use Rattle.record.specs.Fields.{top}
use Rattle.tickets.specs.Live.{is_live, structure, update, rollback}
use Rattle.wholeness.specs.Whole.{whole, lengths_fit, counts_fit, staged_fits, forward_fits, back_fits, restoring_fits, live_fits}
use Rattle.record.specs.declared.Record.{Record}
use Rattle.tickets.specs.declared.Live.{Live}

-- the eight tests, by name
pub record Parts (r : Record) : Type 0 where
  pub lengths : lengths_fit r.accepted r.candidate r.recovery ≡ true
  pub counts : counts_fit r.entries r.applied r.attempted ≡ true
  pub staging : staged_fits r.staged r.revision r.replacements r.phase.number r.entries r.live ≡ true
  pub phase : leb r.phase.number recovered ≡ true
  pub forward : forward_fits r.phase.number r.forward ≡ true
  pub back : back_fits r.phase.number r.back ≡ true
  pub restoring : restoring_fits r.restoring r.phase.number r.entries r.applied r.attempted ≡ true
  pub live : live_fits r.live r.serial r.restoring r.phase.number r.entries r.applied r.attempted ≡ true

pub parts : {r : Record} → whole r ≡ true → Parts r
unfolding whole
parts h =
    let v = both h in
    let w = both v.0 in
    let b = both w.0 in
    let f = both b.0 in
    let p = both f.0 in
    let s = both p.0 in
    let l = both s.0 in
    record { lengths = l.0; counts = l.1; staging = s.1; phase = p.1; forward = f.1; back = b.1; restoring = w.1; live = v.1 }

pub record Counts (n a k : ℕ) : Type 0 where
  pub few : n ≤ limit
  pub order : a ≤ k
  pub near : k ≤ a + 1
  pub inside : k ≤ n

pub counts_of : (n a k : ℕ) → counts_fit n a k ≡ true → Counts n a k
unfolding counts_fit
counts_of n a k h =
    let x = both h in
    let y = both x.0 in
    let z = both y.0 in
    record { few = omega tests; order = omega tests; near = omega tests; inside = omega tests }

-- no count of structure reports is over 5, and none of the way back over 4
pub forward_small : (p f : ℕ) → forward_fits p f ≡ true → f ≤ 5
unfolding forward_fits
forward_small p f h =
    either h (λ h8. either h8 (λ h7. either h7 (λ h6. either h6 (λ h5. either h5 (λ h4. either h4 (λ h3. either h3 (λ h2. either h2
    (λ e. omega (tests, both e)) (λ e. omega (tests, both e))) (λ e. omega (tests, both e))) (λ e. omega (tests, both e))) (λ e. omega (tests, both e)))
    (λ e. omega (tests, both e))) (λ e. omega (tests, both e))) (λ e. either (both e).1 (λ x. omega tests) (λ x. omega tests))) (λ e. omega (tests, both e))

pub back_small : (p b : ℕ) → back_fits p b ≡ true → b ≤ 4
unfolding back_fits
back_small p b h =
    either h (λ h4. either h4 (λ h3. either h3 (λ h2. either h2
    (λ e. omega (tests, both e)) (λ e. omega (tests, both e))) (λ e. omega (tests, both e))) (λ e. omega (tests, both e))) (λ e. omega (tests, both e))

-- what the live ticket's own line says
module _ (l : Live) (t serial : ℕ) (restoring : Bool) (p n a k : ℕ) (w : live_fits l serial restoring p n a k ≡ true) where
  pub live_structure : is_live structure t l ≡ true → has_successor p ≡ true
  unfolding live_fits is_live
  live_structure e = either w (λ z. absurd (omega (tests, both e))) (λ z. follows (both (both (both z).0).0).1 (both e).0)

  pub live_update : is_live update t l ≡ true → k ≡ a + 1
  unfolding live_fits is_live
  live_update e =
      either w (λ z. absurd (omega (tests, both e))) (λ z. eqb-true _ _ (both (follows (both (both z).0).1 (both e).0)).1)

  pub live_rollback : is_live rollback t l ≡ true → (restoring ≡ true) × (0 < n)
  unfolding live_fits is_live
  live_rollback e =
      either w (λ z. absurd (omega (tests, both e))) (λ z. let u = both (follows (both z).1 (both e).0) in (u.0, omega (tests, u)))

-- while restoring, every entry has been attempted
pub restoring_all : (restoring : Bool) (p n a k : ℕ) → restoring_fits restoring p n a k ≡ true → restoring ≡ true → k ≡ n
unfolding restoring_fits
restoring_all restoring p n a k h e =
    eqb-true _ _ (follows (both (both (both (both (both (both (both h).0).0).0).0).0).0).0 e)

-- a staged record's revision can be raised, and its count of replacements
pub staged_room : (staged : Bool) (v c p n : ℕ) (l : Live) → staged_fits staged v c p n l ≡ true → staged ≡ true → (v < top) × (c < top)
unfolding staged_fits
staged_room staged v c p n l h e = let x = both (follows (both h).0 e) in (ltb-true _ _ x.0, ltb-true _ _ x.1)
