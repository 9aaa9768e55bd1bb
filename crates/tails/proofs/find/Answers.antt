-- `tails::find` meets its contract. Assumes nothing.
use mathlib.Core.Path.{◌∙◌, ap}
use lib.ListN.{length}
use Rattle.tail_table.specs.Sweeping.{find_by, room_of}
use Rattle.tail_table.specs.declared.Room.{Room}
use Rattle.tail_table.specs.declared.Sweep.{Sweep}
use Rattle.tail_sweeps.proofs.Deciding.{find_so}
use Rattle.tails.proofs.find.Goals as goal

pub returns : goal.returns
returns c =
    let a = c.args in
    c.find_by.ensures
    ∙ ap (λ (x : Room). find_by x a.used c.sweep-s.result a.size a.claim) c.of_words.ensures
    ∙ ap (λ (s : Sweep). find_by (room_of (length a.words.now)) a.used s a.size a.claim) c.sweep-s.ensures
    ∙ find_so a.words.now a.used a.file a.size a.claim
