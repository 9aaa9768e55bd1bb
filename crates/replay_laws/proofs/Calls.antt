-- A replay of any log runs the calls that its events mean, each at what the last left, and none that the head does not count. Assumes nothing.
use Prim.Native.Nat.{ℕ, zero, suc, ◌+◌, ◌≤◌, ◌<◌}
use mathlib.Core.Path.{◌≡◌, refl, sym, ap, ◌∙◌}
use mathlib.Core.List.{List}
use lib.ListN.{set}
use lib.Seq.{sets}
use native.Mathlib.Nat.{add-zero}
use native.Mathlib.Numerals.{add-one}
use native.Mathlib.Omega.{arith}
use Rattle.log_layout.specs.Log.{count}
use Rattle.calls.specs.Calls.{step}
use Rattle.demand_chains.specs.Chains.{after, heard}
use Rattle.input_events.specs.Events.{event_at}
use Rattle.input_events.specs.Meaning.{meant}
use Rattle.replays.specs.Replaying.{Standing, moved, next, run}
use Rattle.replay_laws.specs.Recording.{calls_from}
use Rattle.replay_laws.specs.Entering.{numbers}
use Rattle.replay_laws.proofs.Running.{by_turn, kept}

pub record Goes (l : List ℕ) (s t : Standing) : Type 0 where
  pub steps : ℕ
  pub ran : t.ran ≡ s.ran + steps
  pub state : t.state ≡ after s.state (calls_from l s.position steps)
  pub answers : t.answers ≡ sets s.answers s.position (numbers s.state (calls_from l s.position steps))

-- one more, in front of them
ahead : (l : List ℕ) (s t : Standing) → Goes l (moved (step s.state (meant (event_at l s.position))) s) t → Goes l s t
unfolding after heard calls_from
ahead l s t g =
    let first = step s.state (meant (event_at l s.position)) in
    let out = set s.answers s.position first.number in
    record {
      steps = suc g.steps;
      ran = omega (arith, g.ran);
      state = g.state;
      answers =
          g.answers ∙ ap (λ (i : ℕ). sets out i (numbers first.state (calls_from l (s.position + 1) g.steps))) (add-one s.position);
    }

pub ran_calls : (n : ℕ) (l : List ℕ) (s : Standing) → Goes l s (run n l s)
unfolding after heard calls_from
ran_calls zero l s = record { steps = 0; ran = sym (add-zero s.ran); state = refl; answers = refl }
ran_calls (suc n) l s =
    by_turn (λ u. Goes l u (run n l u) → Goes l s (run n l u)) l s (λ g. g)
    (λ h b g. record { steps = g.steps; ran = g.ran; state = g.state; answers = g.answers })
    (λ h b g. ahead l s (run n l (moved (step s.state (meant (event_at l s.position))) s)) g)
    (ran_calls n l (next l s))

pub within_count : (n : ℕ) (l : List ℕ) (s : Standing) → (0 < s.ran → s.position ≤ count l) → 0 < (run n l s).ran → (run n l s).position ≤ count l
within_count n l s =
    kept (λ t. 0 < t.ran → t.position ≤ count l) l
    (λ t e. by_turn (λ u. 0 < u.ran → u.position ≤ count l) l t e (λ h b. e) (λ h b f. omega (arith, h))) n s
