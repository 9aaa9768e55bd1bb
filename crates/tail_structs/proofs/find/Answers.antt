-- `tail_structs::find` meets its contract: what is answered by the sweep is what the call on flat words answers. Assumes nothing.
use Rattle.std.proofs.Common.{length, ap, ◌∙◌}
use Rattle.tail_table.specs.Sweeping.{room_for, find_by}
use Rattle.tail_table.specs.declared.Room.{Room}
use Rattle.tail_table.specs.declared.Sweep.{Sweep}
use Rattle.tail_structs.proofs.Agree.{find_agrees}
use Rattle.tail_structs.proofs.find.Goals as goal

pub returns : goal.returns
returns c =
    let a = c.args in
    c.find_by.ensures
    ∙ ap (λ (r : Room). find_by r a.used c.scan-s.result a.size a.claim) c.of_records.ensures
    ∙ ap (λ (s : Sweep). find_by (room_for (length a.tails.now)) a.used s a.size a.claim) c.scan-s.ensures
    ∙ find_agrees a.tails.now a.used a.file a.size a.claim
