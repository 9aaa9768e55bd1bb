-- `audit_lines::put_answers` meets its contract: the line is put. Assumes nothing.
use Rattle.audit_lines.specs.Audits.{answers_text}
use Rattle.audit_lines.proofs.put_answers.Goals as goal

pub returns : goal.returns
unfolding answers_text
returns c = c.put_line.ensures
