-- `text::Page::put_text` meets its contract: to put the bytes that are left stays what it was at the start. Assumes nothing.
use mathlib.Core.Path.{sym, ◌∙◌}
use Rattle.text.proofs.Putting.{put_next, put_end}
use Rattle.text.proofs.Page.put_text.Goals as goal

pub loop-byte-preserved : goal.loop-byte-preserved
loop-byte-preserved c = put_next _ _ _ c.loop-byte-test.true c.put_byte.ensures ∙ c.loop-byte.invariant

pub returns : goal.returns
returns c = sym (put_end _ _ _ c.loop-byte-test.false) ∙ c.loop-byte.invariant
