-- `text::Page::put_text` meets its contract: to put the bytes that are left stays what it was at the start. Assumes nothing.
use mathlib.Core.Path.{◌≡◌}
use lib.ListN.{drop}
use Rattle.text.specs.Writing.{put_all}
use Rattle.text.proofs.Page.put_text.Given as goal

abbrev pub invariant-loop-byte : goal.invariant-loop-byte
invariant-loop-byte l = put_all l.self (drop l.byte-index l.text) ≡ put_all l.initial.self l.text
