-- What is known of an event that is not bad: kind and outcome are in their range, and each word that is not used is zero. Assumes nothing.
use Prim.Native.Nat.{ℕ, ◌≤◌}
use mathlib.Core.Path.{◌≡◌, refl}
use mathlib.Core.Bool.{Bool, true, false, not}
use lib.Dec.{eqb, ltb}
use borrow.Author.Tests.{eqb-true, ltb-false, not-false}
use Rattle.choice.specs.Pick.{◌and◌, ◌or◌}
use Rattle.choice.proofs.Tests.{never, neither}
use Rattle.log_layout.specs.Kinds as kinds
use Rattle.input_events.specs.declared.Event.{Event}
use Rattle.input_events.specs.Events.{failed, done, begins, takes_snapshot, misused, stray, bad}

-- a word that is not misused is zero where it is not used
blank : (used : Bool) (word : ℕ) → misused used word ≡ false → used ≡ false → word ≡ 0
unfolding misused ◌and◌
blank true word h e = never e
blank false word h e = eqb-true word 0 (not-false _ h)

-- what is known of an event that is not bad
pub record Plain (e : Event) : Type 0 where
  pub least : 1 ≤ e.kind
  pub most : e.kind ≤ 12
  pub outcome_most : e.outcome ≤ done
  pub ticket : kinds.reports e.kind ≡ false → e.ticket ≡ 0
  pub outcome : kinds.reports e.kind ≡ false → e.outcome ≡ 0
  pub code : kinds.reports e.kind and eqb e.outcome failed ≡ false → e.code ≡ 0
  pub actions : begins e.kind ≡ false → e.actions ≡ 0
  pub candidate : begins e.kind or eqb e.kind kinds.report_structure ≡ false → e.candidate ≡ 0
  pub second : begins e.kind or eqb e.kind kinds.report_structure or takes_snapshot e.kind ≡ false → e.second ≡ 0
  pub last : e.last ≡ 0

pub plain : (e : Event) → bad e ≡ false → Plain e
unfolding bad stray
plain e h =
    let a = neither h in
    let known = neither a.0 in
    let kind = neither known.0 in
    let g = neither a.1 in
    let f = neither g.0 in
    let d = neither f.0 in
    let c = neither d.0 in
    let b = neither c.0 in
    let o = neither b.0 in
    record {
      least = ltb-false _ _ kind.0;
      most = ltb-false _ _ kind.1;
      outcome_most = ltb-false _ _ known.1;
      ticket = blank _ _ o.0;
      outcome = blank _ _ o.1;
      code = blank _ _ b.1;
      actions = blank _ _ c.1;
      candidate = blank _ _ d.1;
      second = blank _ _ f.1;
      last = blank false _ g.1 refl;
    }
