-- `text::Page::put_byte` meets its contract. Assumes nothing.
use mathlib.Core.Path.{refl}
use borrow.Author.Tests.{lt-ltb, le-ltb}
use Rattle.choice.proofs.Picks.{yes, no}
use Rattle.text.specs.Writing.{put_byte}
use Rattle.text.proofs.Page.put_byte.Goals as goal

pub returns-then-self : goal.returns-then-self
unfolding put_byte
returns-then-self c = yes _ (lt-ltb _ _ c.if-self.true) refl

pub returns-else-self : goal.returns-else-self
unfolding put_byte
returns-else-self c = no _ (le-ltb _ _ c.if-self.false) refl
