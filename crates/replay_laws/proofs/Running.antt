-- A replay of so many events, turn by turn: what every turn keeps the replay keeps, and a portion that is given one event more.
-- Assumes nothing.
use Prim.Native.Nat.{ℕ, zero, suc, ◌+◌, ◌≤◌, ◌<◌}
use mathlib.Core.Path.{◌≡◌, refl, ap, ◌∙◌}
use mathlib.Core.Bool.{true, false, not}
use mathlib.Core.List.{List}
use mathlib.Core.Logic.{◌≢◌}
use lib.Dec.{eqb, leb}
use lib.ListN.{length, get_or, length-set}
use lib.Seq.{get_or-set_other}
use native.Mathlib.Nat.{zero-add, suc-add}
use native.Mathlib.Omega.{arith}
use borrow.Author.Tests.{leb-false, eqb-true}
use Rattle.choice.specs.Pick.{◌or◌}
use Rattle.choice.proofs.Picks.{picked}
use Rattle.choice.proofs.Tests.{neither, test, tests}
use Rattle.log_layout.specs.Log.{count}
use Rattle.calls.specs.Calls.{step}
use Rattle.input_events.specs.Events.{event_at, bad}
use Rattle.input_events.specs.Meaning.{meant}
use Rattle.replays.specs.Replaying.{Standing, goes_on, stopped, moved, next, run}

-- the next event by cases: none is run, or it is bad, or it is answered
pub by_turn : (P : Standing → Type 0) (l : List ℕ) (s : Standing) → P s
    → (s.position < count l → bad (event_at l s.position) ≡ true → P (stopped s))
    → (s.position < count l → bad (event_at l s.position) ≡ false → P (moved (step s.state (meant (event_at l s.position))) s)) → P (next l s)
unfolding next
by_turn P l s rests stops goes =
    picked P (not (goes_on s.ending) or leb (count l) s.position) (λ e. rests) (λ e.
    let there = leb-false _ _ (neither e).1 in
    picked P (bad (event_at l s.position)) (λ b. stops there b) (λ b. goes there b))

-- what every turn keeps the replay keeps
pub kept : (P : Standing → Type 0) (l : List ℕ) → ((s : Standing) → P s → P (next l s)) → (n : ℕ) (s : Standing) → P s → P (run n l s)
kept P l f zero s p = p
kept P l f (suc n) s p = kept P l f n (next l s) (f s p)

pub run_length : (n : ℕ) (l : List ℕ) (s : Standing) → length (run n l s).answers ≡ length s.answers
run_length n l s =
    kept (λ t. length t.answers ≡ length s.answers) l
    (λ t e. by_turn (λ u. length u.answers ≡ length s.answers) l t e (λ h b. e) (λ h b. length-set t.answers t.position _ ∙ e)) n s refl

-- one event that ran is one event further
pub run_position : (n : ℕ) (l : List ℕ) (s : Standing) → (run n l s).position + s.ran ≡ s.position + (run n l s).ran
run_position n l s =
    kept (λ t. t.position + s.ran ≡ s.position + t.ran) l
    (λ t e. by_turn (λ u. u.position + s.ran ≡ s.position + u.ran) l t e (λ h b. e) (λ h b. omega (arith, e))) n s (omega arith)

-- a turn writes where it stands, and goes no way back
pub run_onward : (n : ℕ) (l : List ℕ) (s : Standing) → s.position ≤ (run n l s).position
run_onward n l s =
    kept (λ t. s.position ≤ t.position) l
    (λ t e. by_turn (λ u. s.position ≤ u.position) l t e (λ h b. e) (λ h b. omega (arith, e))) n s (omega arith)

-- what stands before the first event that is run stays
pub stays_before : (n : ℕ) (l : List ℕ) (s : Standing) (i : ℕ) → i < s.position → get_or (run n l s).answers i 0 ≡ get_or s.answers i 0
stays_before n l s i h =
    (kept (λ t. (s.position ≤ t.position) × (get_or t.answers i 0 ≡ get_or s.answers i 0)) l
    (λ t e. by_turn (λ u. (s.position ≤ u.position) × (get_or u.answers i 0 ≡ get_or s.answers i 0)) l t e (λ k b. e)
    (λ k b. let other : i ≢ t.position = omega (arith, e.0, h) in
    (omega (arith, e.0), get_or-set_other t.answers t.position i _ 0 other ∙ e.1))) n s (omega arith, refl)).1

-- and so does what stands behind the last
pub stays_behind : (n : ℕ) (l : List ℕ) (s : Standing) (i : ℕ) → (run n l s).position ≤ i → get_or (run n l s).answers i 0 ≡ get_or s.answers i 0
stays_behind zero l s i h = refl
stays_behind (suc n) l s i h =
    stays_behind n l (next l s) i h
    ∙ by_turn (λ u. u.position ≤ (run n l u).position → (run n l u).position ≤ i → get_or u.answers i 0 ≡ get_or s.answers i 0) l s
    (λ a b. refl) (λ k b c d. refl)
    (λ k g a b. let other : i ≢ s.position = omega (arith, a, b) in get_or-set_other s.answers s.position i _ 0 other)
    (run_onward n l (next l s)) h

-- the events that were run are not bad
pub ran_good : (n : ℕ) (l : List ℕ) (s : Standing) (i : ℕ) → s.position ≤ i → i < (run n l s).position → bad (event_at l i) ≡ false
ran_good n l s i h =
    kept (λ t. i < t.position → bad (event_at l i) ≡ false) l
    (λ t e. by_turn (λ u. i < u.position → bad (event_at l i) ≡ false) l t e (λ k b. e)
    (λ m b k. test (eqb i t.position) (λ q. ap (λ (x : ℕ). bad (event_at l x)) (eqb-true _ _ q) ∙ b) (λ q. e (omega tests)))) n s
    (λ k. absurd (omega (arith, h, k)))

-- no more of them than it is given
pub run_most : (n : ℕ) (l : List ℕ) (s : Standing) → (run n l s).ran ≤ s.ran + n
run_most zero l s = omega arith
run_most (suc n) l s =
    let m = run_most n l (next l s) in
    let k = by_turn (λ t. t.ran ≤ s.ran + 1) l s (omega arith) (λ h b. omega arith) (λ h b. omega arith) in
    omega (arith, m, k)

-- m events and then n are m + n
pub run_adds : (m n : ℕ) (l : List ℕ) (s : Standing) → run (m + n) l s ≡ run n l (run m l s)
run_adds zero n l s = ap (λ (k : ℕ). run k l s) (zero-add n)
run_adds (suc m) n l s = ap (λ (k : ℕ). run k l s) (suc-add m n) ∙ run_adds m n l (next l s)
