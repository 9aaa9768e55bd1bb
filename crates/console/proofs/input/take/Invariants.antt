-- `console::input::take` meets its contract: the page stays the loan that it was, and as long. Assumes nothing.
use Rattle.std.proofs.Common.{◌≡◌, length}
use Rattle.console.proofs.input.take.Given as goal

abbrev pub invariant-loop-i : goal.invariant-loop-i
invariant-loop-i l = (l.line.bytes.ghost_name ≡ l.initial.line.bytes.ghost_name) × (length l.line.bytes.now ≡ length l.initial.line.bytes.now)
