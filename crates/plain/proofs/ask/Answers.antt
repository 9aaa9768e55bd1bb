-- `plain::ask` meets its contract: 6, then 7, then the events. Assumes nothing.
use mathlib.Core.Bool.{not}
use mathlib.Core.Path.{ap, refl}
use lib.ListN.{length}
use native.Mathlib.Omega.{arith}
use borrow.Author.Tests.{not-false}
use Rattle.choice.proofs.Picks.{yes, no, told, told_not}
use Rattle.log_layout.proofs.Room.{input_head, input_size}
use Rattle.plain.specs.Looking.{asked}
use Rattle.plain.proofs.ask.Goals as goal

pub returns-then-not-input_sized : goal.returns-then-not-input_sized
unfolding asked
returns-then-not-input_sized c = yes _ (told_not c.input_sized.ensures (ap not c.if-not-input_sized.true)) refl

pub returns-then-not-input_sound : goal.returns-then-not-input_sound
unfolding asked
returns-then-not-input_sound c =
    no _ (told_not c.input_sized.ensures (ap not c.if-not-input_sized.false))
    (yes _ (told_not c.input_sound.ensures (ap not c.if-not-input_sound.true)) refl)

pub look-requires : goal.look-requires
look-requires c =
    let l = c.args.words.now in
    let is-sound = told c.input_sound.ensures (not-false _ (ap not c.if-not-input_sound.false)) in
    let is-sized = told c.input_sized.ensures (not-false _ (ap not c.if-not-input_sized.false)) in
    (is-sound, omega (arith, (input_head l is-sound).exact, (input_size (length l) is-sized).1))

pub returns : goal.returns
unfolding asked
returns c =
    no _ (told_not c.input_sized.ensures (ap not c.if-not-input_sized.false))
    (no _ (told_not c.input_sound.ensures (ap not c.if-not-input_sound.false)) c.look.ensures)
