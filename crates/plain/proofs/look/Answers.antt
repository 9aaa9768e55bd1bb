-- `plain::look` meets its contract. The invariant: what is left to go through, from what was taken, comes to what the whole does. Assumes nothing.
use Prim.Native.Nat.{ℕ, ◌+◌, ◌-◌, ◌<◌}
use mathlib.Core.Path.{◌≡◌, sym, ap, ◌∙◌}
use native.Mathlib.Omega.{arith}
use Rattle.std.specs.Prelude.{Ok}
use Rattle.std.proofs.Math.Nat.{min-le_left}
use Rattle.choice.proofs.Tests.{tests}
use Rattle.log_layout.specs.Log.{count}
use Rattle.log_layout.proofs.Room.{input_head}
use Rattle.input_events.specs.Events.{bad}
use Rattle.input_events.specs.Meaning.{called, meant}
use Rattle.input_events.proofs.Meant.{none_meant, one_meant}
use Rattle.plain.specs.Taking.{takes}
use Rattle.plain.specs.Looking.{looks, finding}
use Rattle.plain.proofs.Bounds.{raised}
use Rattle.plain.proofs.Keeping.{opened_kept}
use Rattle.plain.proofs.Calls.{takes_kept}
use Rattle.plain.proofs.Looking.{at_bad, at_event, going, over}
use Rattle.plain.proofs.look.Goals as goal

pub bounds-words-0 : goal.bounds-words-0
bounds-words-0 c = omega (arith, (input_head c.args.words.now c.requires.0).long)

pub loop-at-init : goal.loop-at-init
loop-at-init c =
    let given = c.args in
    let all : given.events - 0 ≡ given.events = omega arith in (
      ap (λ (n : ℕ). looks n given.words.now 0 c.opened-taken.result) all,
      rw c.opened-taken.ensures (opened_kept given.given (omega (arith, c.well_formed.1.0.1.1.0.1)) (omega (arith, c.well_formed.1.0.1.1.1.1.0.1))),
    )

pub returns-in_default : goal.returns-in_default
returns-in_default c =
    let now = c.loop-at in
    let given = c.args in
    let l = given.words.now in
    let goes = going now.at given.events (count l) c.min-at-end.ensures c.loop-at-test.true in
    let left : 0 < given.events - now.at = omega (arith, goes.0) in
    ap (finding given.question)
    (at_bad (given.events - now.at) l now.at now.taken left goes.1 (ap bad (sym c.event_at.ensures) ∙ none_meant _ c.call.ensures c.in_default.is)
    ∙ now.invariant.0
    ∙ ap (looks given.events l 0) c.opened-taken.ensures)

pub take-taken-requires : goal.take-taken-requires
take-taken-requires c =
    let now = c.loop-at in
    let l = c.args.words.now in
    let goes = going now.at c.args.events (count l) c.min-at-end.ensures c.loop-at-test.true in
    raised (omega (arith, goes.1, c.requires.1, (input_head l c.requires.0).within)) now.invariant.1.within

pub loop-at-preserved : goal.loop-at-preserved
loop-at-preserved c =
    let now = c.loop-at in
    let given = c.args in
    let l = given.words.now in
    let goes = going now.at given.events (count l) c.min-at-end.ensures c.loop-at-test.true in
    let left : 0 < given.events - now.at = omega (arith, goes.0) in
    let fewer : given.events - (now.at + 1) ≡ (given.events - now.at) - 1 = omega arith in
    let good = one_meant _ c.call.ensures c.in-Some.is in
    let event = sym c.event_at.ensures in (
      ap (looks (given.events - (now.at + 1)) l (now.at + 1)) c.take-taken.ensures
          ∙ ap (λ (n : ℕ). looks n l (now.at + 1) (takes now.taken (called c.in-Some.call))) fewer
          ∙ at_event (given.events - now.at) l now.at now.taken left goes.1 (ap bad event ∙ good.0) (good.1 ∙ ap meant (sym event))
          ∙ now.invariant.0,
      rw c.take-taken.ensures (takes_kept now.invariant.1 (called c.in-Some.call)),
    )

pub answer-requires : goal.answer-requires
answer-requires c =
    let now = c.loop-at in
    let l = c.args.words.now in
    let all : now.at ≡ c.min-at-end.result = omega (tests, c.loop-at-test.false, now.auto.at-end) in
    raised (omega (arith, all, c.min-at-end.ensures, min-le_left (count l) c.args.events, c.requires.1, (input_head l c.requires.0).within)) now.invariant.1.within

pub returns : goal.returns
returns c =
    let now = c.loop-at in
    let given = c.args in
    let all : now.at ≡ c.min-at-end.result = omega (tests, c.loop-at-test.false, now.auto.at-end) in
    ap Ok c.answer.ensures
    ∙ ap (finding given.question)
    (over given.events given.words.now now.at now.taken (all ∙ c.min-at-end.ensures)
    ∙ now.invariant.0
    ∙ ap (looks given.events given.words.now 0) c.opened-taken.ensures)
