-- `templates::next_template` meets its contract. Assumes nothing.
use Rattle.std.proofs.Common.{◌∙◌, take_all, le_refl, length-drop}
use Rattle.templates.proofs.Passing.{after_some, after_none}
use Rattle.templates.proofs.next_template.Goals as goal

pub returns-in-Some-clause-value : goal.returns-in-Some-clause-value
returns-in-Some-clause-value c =
    take_all _ _ (simp length-drop (le_refl _)) ∙ (after_some c.args.templates.now c.in-Some.end c.in-Some.ensures).1

pub returns-in-None-clause-value : goal.returns-in-None-clause-value
returns-in-None-clause-value c = after_none _ c.in-None.ensures
