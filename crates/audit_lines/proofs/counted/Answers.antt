-- `audit_lines::counted` meets its contract: past the end of a list there is 0. Assumes nothing.
use mathlib.Core.Path.{sym}
use native.Mathlib.Omega.{arith}
use lib.ListN.{get_or-eq_default}
use Rattle.audit_lines.proofs.counted.Goals as goal

pub returns-then-words-eq0 : goal.returns-then-words-eq0
returns-then-words-eq0 c = sym (get_or-eq_default c.args.words.now 0 (omega (arith, c.if-words-eq0.true)))
