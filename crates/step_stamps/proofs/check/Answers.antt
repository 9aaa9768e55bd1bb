-- `step_stamps::check` meets its contract. Assumes nothing.
use mathlib.Core.Bool.{Bool, true, false, not, ◌&&◌}
use mathlib.Core.Path.{◌≡◌, ap, refl}
use Rattle.std.specs.Prelude.{Ok}
use Rattle.choice.specs.Pick.{pick, ◌and◌}
use Rattle.choice.proofs.Picks.{yes, no, told_not}
use Rattle.step_stamps.specs.Stamping.{says_checked, passes, check_step}
use Rattle.step_stamps.proofs.check.Goals as goal

-- what is said of a test's own value, and of one after another
answered : {k : Bool} (b : Bool) → k ≡ b → says_checked (Ok k) ≡ pick b (says_checked (Ok true)) (says_checked (Ok false))
unfolding pick
answered true e = simp e
answered false e = simp e

in_turn : {k : Bool} (staged a b c : Bool) → staged ≡ false → k ≡ a && (b && c) → k ≡ not staged and a and b and c
unfolding ◌and◌
in_turn staged true b c h e = simp h e
in_turn staged false b c h e = simp h e

pub returns-then-not-whole : goal.returns-then-not-whole
unfolding check_step
returns-then-not-whole c = yes _ (told_not c.whole.ensures (ap not c.if-not-whole.true)) refl

pub returns-then-not-r : goal.returns-then-not-r
unfolding check_step passes
returns-then-not-r c = no _ (told_not c.whole.ensures (ap not c.if-not-whole.false)) (answered _ (in_turn _ _ _ _ c.if-not-r.true (rw c.stamp_of.ensures at c.eq.ensures)))

pub returns-else-not-r : goal.returns-else-not-r
unfolding check_step passes ◌and◌
returns-else-not-r c = no _ (told_not c.whole.ensures (ap not c.if-not-whole.false)) (answered _ (simp c.if-not-r.false))
