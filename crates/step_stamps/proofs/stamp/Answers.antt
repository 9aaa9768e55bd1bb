-- `step_stamps::stamp` meets its contract. Assumes nothing.
use mathlib.Core.Bool.{not}
use mathlib.Core.Path.{ap, refl}
use Rattle.std.specs.Prelude.{Ok}
use Rattle.choice.proofs.Picks.{yes, no, told_not}
use Rattle.step_stamps.specs.Stamping.{says_stamping, stamp_step}
use Rattle.step_stamps.specs.declared.SaveStamp.{SaveStamp}
use Rattle.step_stamps.proofs.stamp.Goals as goal

pub returns-then-not-whole : goal.returns-then-not-whole
unfolding stamp_step
returns-then-not-whole c = yes _ (told_not c.whole.ensures (ap not c.if-not-whole.true)) refl

pub returns-then-r : goal.returns-then-r
unfolding stamp_step
returns-then-r c = no _ (told_not c.whole.ensures (ap not c.if-not-whole.false)) (yes _ c.if-r.true refl)

pub returns : goal.returns
unfolding stamp_step
returns c = no _ (told_not c.whole.ensures (ap not c.if-not-whole.false)) (no _ c.if-r.false (ap (λ (s : SaveStamp). says_stamping (Ok s)) c.stamp_of.ensures))
