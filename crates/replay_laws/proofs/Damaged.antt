-- Readings of request 4: "A record that is not whole answers each event 7." Assumes nothing.
use Prim.Native.Nat.{ℕ, ◌≤◌, ◌<◌}
use mathlib.Core.Path.{◌≡◌, refl, ap, ◌∙◌}
use mathlib.Core.Bool.{false}
use mathlib.Core.List.{List}
use lib.Dec.{eqb}
use lib.ListN.{length, get_or, set, length-set}
use lib.Seq.{get_or-set_same, get_or-set_other}
use native.Mathlib.Omega.{arith}
use borrow.Author.Tests.{eqb-true}
use Rattle.choice.proofs.Tests.{test, tests, eqb_ne}
use Rattle.answers.specs.declared.Refusal.TheVariants.{Damaged}
use Rattle.record.specs.Answers.{Told, refuse}
use Rattle.record.specs.declared.Record.{Record}
use Rattle.wholeness.specs.Whole.{whole}
use Rattle.calls.specs.Calls.{step}
use Rattle.demand_steps.proofs.Own.{damaged_step}
use Rattle.input_events.specs.Events.{event_at}
use Rattle.input_events.specs.Meaning.{meant}
use Rattle.replay_laws.proofs.Gives.{by_replay}
use Rattle.replays.specs.Replaying.{Standing, start, moved, replayed}
use Rattle.replay_laws.proofs.Running.{by_turn, kept}

-- "A record that is not whole answers each event 7", and stays
pub record Damages (p : ℕ) (r : Record) (a : List ℕ) (d : Standing) : Type 0 where
  pub same_record : d.state ≡ r
  pub same_length : length d.answers ≡ length a
  pub seven : (i : ℕ) → p ≤ i → i < d.position → i < length a → get_or d.answers i 0 ≡ 7

pub damaged_throughout : (l : List ℕ) (p : ℕ) (r : Record) (a : List ℕ) (n : ℕ) → whole r ≡ false → Damages p r a (replayed l p r a n)
damaged_throughout l p r a n w =
    by_replay (Damages p r a) l p r a n
    (λ why. record { same_record = refl; same_length = refl; seven = λ i h k m. absurd (omega (arith, h, k)) })
    (λ h z. kept (Damages p r a) l (λ s d. by_turn (Damages p r a) l s d (λ h b. record { same_record = d.same_record; same_length = d.same_length; seven = d.seven })
    (λ h b. answers7 s d)) n (start p r a) (record { same_record = refl; same_length = refl; seven = λ i h k m. absurd (omega (arith, h, k)) }))
  where
    answers7 : (s : Standing) → Damages p r a s → Damages p r a (moved (step s.state (meant (event_at l s.position))) s)
    answers7 s d =
        let c = meant (event_at l s.position) in
        let is : step s.state c ≡ refuse Damaged r = ap (λ (x : Record). step x c) d.same_record ∙ damaged_step r c w in
        record {
          same_record = ap (λ (t : Told). t.state) is;
          same_length = length-set s.answers s.position _ ∙ d.same_length;
          seven = λ i h k m.
              test (eqb i s.position)
              (λ q.
              let at = eqb-true _ _ q in
              ap (λ (n : ℕ). get_or (set s.answers s.position (step s.state c).number) n 0) at
              ∙ get_or-set_same s.answers s.position _ 0 (omega (arith, at, m, d.same_length))
              ∙ ap (λ (t : Told). t.number) is)
              (λ q. get_or-set_other s.answers s.position i _ 0 (eqb_ne _ _ q) ∙ d.seven i h (omega tests) m);
        }
