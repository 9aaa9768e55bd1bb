-- A call that is sent does its step, or is refused and changes nothing: so it is one of the cases of `Leaf` too, and what every case keeps
-- every chain keeps. A plain chain is a chain of calls that are sent plainly. Assumes nothing.
use Prim.Native.Nat.{ℕ}
use mathlib.Core.Path.{◌≡◌, refl, sym, ◌∙◌, ap}
use mathlib.Core.Bool.{Bool, true, false, not}
use mathlib.Core.List.{List, [], ◌∷◌, map}
use Rattle.choice.specs.Pick.{pick, ◌and◌}
use Rattle.choice.proofs.Tests.{no_right}
use Rattle.choice.proofs.Picks.{no, each}
use Rattle.answers.specs.Classes.{Class}
use Rattle.record.specs.Answers.{Told, said_of, refuse}
use Rattle.record.specs.Leaves.{leaves}
use Rattle.record.specs.declared.Record.{Record}
use Rattle.answers.specs.declared.Refusal.{Refusal}
use Rattle.answers.specs.declared.Refusal.TheVariants.{LogFull}
use Rattle.wholeness.specs.Whole.{whole}
use Rattle.log_layout.specs.Log.{full}
use Rattle.noting.specs.Recorded.{recorded}
use Rattle.calls.specs.Calls.{Call, step}
use Rattle.demand_steps.specs.Knowing.{Heard, hears, Watch}
use Rattle.demand_steps.specs.Watching.{sees, watch}
use Rattle.demand_chains.specs.Chains.{after, heard}
use Rattle.demand_chains.specs.Sending.{Sent, plainly, answered, after_sent, heard_sent}
use Rattle.demand_steps.proofs.Own.{own, answers}
use Rattle.demand_steps.proofs.Leaf.{Leaf}
use Rattle.demand_steps.proofs.Classify.{refuses, classify}

-- what holds of refusals and of a call's own holds of the call that is sent
pub sent_answers : (P : Told → Type 0) (r : Record) → ((why : Refusal) → P (refuse why r)) → (s : Sent) → (whole r ≡ true → P (own r s.call)) → P (answered r s)
unfolding answered
sent_answers P r f s g = each P _ (f LogFull) (answers P r f s.sized s.sound s.call g)

pub sent_leaf : (r : Record) (s : Sent) → Leaf r s.call (answered r s)
sent_leaf r s = sent_answers (Leaf r s.call) r (refuses r) s (λ w. classify r s.call)

pub chain_keeps : (P : Watch → Record → Type 0) → ((w : Watch) (r : Record) (c : Call) (x : Told) → Leaf r c x → P w r → P (sees w c (said_of x)) x.state) →
    (w : Watch) (r : Record) (ss : List Sent) → P w r → P (watch w (heard_sent r ss)) (after_sent r ss)
unfolding watch heard_sent after_sent
chain_keeps P f w r [] p = p
chain_keeps P f w r (s ∷ ss) p = chain_keeps P f (sees w s.call (said_of (answered r s))) (answered r s).state ss (f w r _ _ (sent_leaf r s) p)

-- a plain chain is a chain of calls that are sent plainly
module _ (r : Record) where
  plain_answer : (c : Call) → answered r (plainly c) ≡ step r c
  unfolding answered
  plain_answer c = sym (no _ (no_right _ refl) refl)

pub plain_after : (r : Record) (cs : List Call) → after_sent r (map plainly cs) ≡ after r cs
unfolding after_sent after
plain_after r [] = refl
plain_after r (c ∷ cs) = ap (λ (t : Told). after_sent t.state (map plainly cs)) (plain_answer r c) ∙ plain_after (step r c).state cs

pub plain_heard : (r : Record) (cs : List Call) → heard_sent r (map plainly cs) ≡ heard r cs
unfolding heard_sent heard
plain_heard r [] = refl
plain_heard r (c ∷ cs) =
    ap (λ (t : Told). hears c t ∷ heard_sent t.state (map plainly cs)) (plain_answer r c)
    ∙ ap (λ (hs : List Heard). hears c (step r c) ∷ hs) (plain_heard (step r c).state cs)

two : (w f : Bool) (t u : Told) (a b c : List (List ℕ)) → (pick (not w) (leaves t a) (pick f (leaves u b) (leaves t c))).told ≡ pick (w and f) u t
unfolding pick ◌and◌
two true true t u a b c = refl
two true false t u a b c = refl
two false f t u a b c = refl

-- through the log, a call answers as one that is sent so: every promise of the recorder is a `recorded`
pub recorded_answer : (w : Class → Bool) (kind : ℕ) (t : Told) (r : Record) (log : List ℕ) (lent moved : List (List ℕ)) →
    (recorded w kind t r log lent moved).told ≡ pick (w t.class and full log) (refuse LogFull r) t
unfolding recorded
recorded_answer w kind t r log lent moved = two (w t.class) (full log) t (refuse LogFull r) _ _ _
