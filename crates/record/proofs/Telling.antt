-- What a call tells determines what it answers and leaves. Assumes nothing.
use mathlib.Core.Path.{◌≡◌, ◌∙◌, ap}
use Rattle.answers.specs.declared.Answer.{Answer}
use Rattle.answers.proofs.Saying.{says_one}
use Rattle.record.specs.Answers.{Told, said_of, tells}
use Rattle.record.specs.declared.Record.{Record}
use Rattle.record.specs.declared.Stepped.{Stepped}

abbrev step : Answer → Record → Stepped
step a r = record { answer = a; state = r }

-- calls that tell the same answer and leave the same
pub tells_one : (s t : Stepped) → tells s ≡ tells t → s ≡ t
tells_one s t e =
    ap (λ (a : Answer). step a s.state) (says_one s.answer t.answer (ap said_of e))
    ∙ ap (step t.answer) (ap (λ (d : Told). d.state) e)
