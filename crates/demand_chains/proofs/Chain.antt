-- Every chain from a whole record keeps it whole, and what the watcher knows tied to it. Assumes nothing.
use mathlib.Core.Path.{◌≡◌}
use mathlib.Core.Bool.{true}
use mathlib.Core.List.{List}
use Rattle.record.specs.Answers.{Told, said_of}
use Rattle.record.specs.Given.{standing}
use Rattle.record.specs.declared.Record.{Record}
use Rattle.wholeness.specs.Whole.{whole}
use Rattle.calls.specs.Calls.{Call, step}
use Rattle.demand_chains.specs.Sending.{Sent, after_sent, heard_sent}
use Rattle.demand_steps.specs.Typed.{Typed}
use Rattle.demand_steps.specs.Knowing.{Watch, unwatched}
use Rattle.demand_steps.specs.Watching.{sees, watch}
use Rattle.demand_steps.proofs.Own.{own, whole_step}
use Rattle.demand_steps.proofs.Leaf.{Leaf}
use Rattle.demand_steps.proofs.Classify.{leaf}
use Rattle.demand_chains.proofs.Sending.{chain_keeps}
use Rattle.demand_steps.proofs.Facts.{Whole}
use Rattle.demand_steps.proofs.Reading.{whole_facts}
use Rattle.demand_steps.proofs.Wholeness.{whole_test}
use Rattle.demand_steps.proofs.Calming.{range}
use Rattle.demand_steps.proofs.Preserve.{preserve}
use Rattle.demand_chains.proofs.Noting.{Tied}
use Rattle.demand_chains.proofs.Tying.{tie}

-- a whole record is not refused as Damaged
pub undamaged : {r : Record} (c : Call) → Whole r → step r c ≡ own r c
undamaged {r} c w = whole_step r c (whole_test w)

-- demand 2: wholeness is kept by every call, and that revision and count are u64s
module _ (r : Record) (m : Typed (standing r)) (h : whole r ≡ true) where
  kept_by : {c : Call} {x : Told} → Leaf r c x → (whole x.state ≡ true) × Typed (standing x.state)
  kept_by l = let y = preserve (whole_facts r m h) l in (whole_test y, range y.calm)

pub whole_kept : (r : Record) (c : Call) → Typed (standing r) → whole r ≡ true → (whole (step r c).state ≡ true) × Typed (standing (step r c).state)
whole_kept r c m h = kept_by r m h (leaf r c)

-- and in every chain
pub whole_chain : (r : Record) (ss : List Sent) → Typed (standing r) → whole r ≡ true → whole (after_sent r ss) ≡ true
whole_chain r ss m h = (chain_keeps (λ w q. (whole q ≡ true) × Typed (standing q)) (λ w q c t l x. kept_by q x.1 x.0 l) unwatched r ss (h, m)).0

pub record Good (w : Watch) (r : Record) : Type 0 where
  pub is_whole : Whole r
  pub tied : Tied w r

-- a call keeps it so
pub good_leaf : {w : Watch} {r : Record} {c : Call} {x : Told} → Leaf r c x → Good w r → Good (sees w c (said_of x)) x.state
good_leaf {w} l g = record { is_whole = preserve g.is_whole l; tied = tie w g.is_whole g.tied l }

pub good_chain : (w : Watch) (r : Record) (ss : List Sent) → Good w r → Good (watch w (heard_sent r ss)) (after_sent r ss)
good_chain = chain_keeps Good (λ w r c x. good_leaf)
