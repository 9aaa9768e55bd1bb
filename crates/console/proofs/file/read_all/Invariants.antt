-- `console::file::read_all`: what was read so far fits into `into`. Assumes nothing.
use Rattle.std.proofs.Common.{◌≤◌, length}
use Rattle.console.proofs.file.read_all.Given as goal

abbrev pub invariant-loop : goal.invariant-loop
invariant-loop g l = l.done ≤ length l.into
