-- `reporting::reported` meets its contract: a case for each outcome. Assumes nothing.
use mathlib.Core.Path.{◌∙◌, ap, sym}
use Rattle.record.specs.Answers.{Told, tells}
use Rattle.record.specs.Given.{effect_of}
use Rattle.record.specs.declared.Outcome.{Outcome}
use Rattle.record.specs.declared.Record.{Record}
use Rattle.reporting.specs.Reporting.{reported}
use Rattle.reporting.proofs.reported.Goals as goal

abbrev of : Record → Told → Outcome → Told
of r done o = reported (effect_of o) r done

pub returns-in-Waiting : goal.returns-in-Waiting
unfolding reported
returns-in-Waiting c =
    let a = c.args in
    c.answering.ensures ∙ ap (of a.r (tells a.done)) (sym c.in-Waiting.is)

pub returns-in-Failed : goal.returns-in-Failed
unfolding reported
returns-in-Failed c =
    let a = c.args in
    c.answering-in-Failed.ensures ∙ ap (of a.r (tells a.done)) (sym c.in-Failed.is)

pub returns-in-Done : goal.returns-in-Done
unfolding reported
returns-in-Done c = let a = c.args in ap (of a.r (tells a.done)) (sym c.in-Done.is)
