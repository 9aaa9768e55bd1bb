-- `audit_lines::audit` meets its contract, a finding of the first question at a time. Assumes nothing.
use mathlib.Core.Path.{◌≡◌, ◌∙◌, ap}
use Rattle.std.proofs.Common.{rules}
use Rattle.std.specs.Prelude.{Ok, Err}
use Rattle.input_events.specs.declared.Fault.TheVariants.{BadEvent, Refused}
use Rattle.plain.specs.Looking.{Finding}
use Rattle.plain.specs.declared.Question.TheVariants.{Phase}
use Rattle.audit_lines.proofs.Finding.{number, tells, answers}
use Rattle.audit_lines.proofs.audit.Goals as goal

pub returns-in-Err-BadEvent : goal.returns-in-Err-BadEvent
returns-in-Err-BadEvent c =
    let is : ◌≡◌ {A = Finding} c.ask.result (Err (BadEvent c.in-Err-BadEvent.number)) = search rules in
    let told = tells _ _ _ c.ask.ensures is in search (rules, told)

pub returns-in-Err-Refused : goal.returns-in-Err-Refused
returns-in-Err-Refused c =
    let is : ◌≡◌ {A = Finding} c.ask.result (Err (Refused c.in-Err-Refused.why)) = search rules in
    let told = tells _ _ _ c.ask.ensures is in search (rules, told)

pub returns : goal.returns
returns c =
    let first = c.ask.ensures in
    let is = c.in-Ok.is in
    ap Ok
    (answers _ _ _ (number _ _ _ Phase first is) c.number_after.ensures c.number_after-2.ensures c.number_after-3.ensures
    c.number_after-4.ensures)
    ∙ tells _ _ _ first is
