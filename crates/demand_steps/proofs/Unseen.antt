-- What the watcher does not see: a refused call. Assumes nothing.
use Prim.Native.Nat.{ℕ}
use mathlib.Core.Path.{◌≡◌, refl}
use mathlib.Core.List.{[]}
use Rattle.choice.specs.Pick.{pick}
use Rattle.answers.specs.Classes.Class.{refusal}
use Rattle.answers.specs.Answers.{Said, said}
use Rattle.record.specs.Given.{Effect, effect_of}
use Rattle.record.specs.Given.Effect.{rests, works}
use Rattle.answers.specs.declared.Refusal.{Refusal}
use Rattle.calls.specs.Calls.{Report, Call}
use Rattle.calls.specs.Calls.Work.{structure, update, rollback}
use Rattle.calls.specs.Calls.Call.{begin, ask, report, edit, commit, recover, recover_retained, refresh, stamp, check}
use Rattle.demand_steps.specs.Knowing.{Watch}
use Rattle.demand_steps.specs.Watching.{hears_report, sees}

-- an answer to a call that moves nothing
abbrev pub Unseen : Call → Said → Type 0
Unseen c s = (w : Watch) → sees w c s ≡ w

report_unseen : (of : Report) (t : ℕ) (x : Effect) (why : Refusal) (w : Watch) → hears_report of t x (said (refusal why) []) w ≡ w
unfolding hears_report pick
report_unseen of t (rests answer) why w = refl
report_unseen of t works why w = refl

pub unseen : (c : Call) (why : Refusal) → Unseen c (said (refusal why) [])
unfolding sees pick
unseen (begin structural b) why w = refl
unseen (ask structure) why w = refl
unseen (ask update) why w = refl
unseen (ask rollback) why w = refl
unseen (report of t x) why w = report_unseen of t (effect_of x) why w
unseen (edit c o) why w = refl
unseen commit why w = refl
unseen (recover n) why w = refl
unseen recover_retained why w = refl
unseen (refresh n) why w = refl
unseen (stamp domain) why w = refl
unseen (check domain s) why w = refl
