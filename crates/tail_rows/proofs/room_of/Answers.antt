-- `tail_rows::room_of` meets its contract. Assumes nothing.
use Rattle.std.proofs.Common.{not, Some, refl, sym, ap, ◌∙◌}
use Rattle.choice.proofs.Picks.{yes, no}
use Rattle.tail_table.specs.declared.Room.{Room}
use Rattle.tail_rows.proofs.room_of.Goals as goal

pub returns-then-not-room : goal.returns-then-not-room
returns-then-not-room c = yes _ (ap (λ (r : Room). not r.sized) (sym c.of_words-room.ensures) ∙ c.if-not-room.true) refl

pub returns : goal.returns
returns c = no _ (ap (λ (r : Room). not r.sized) (sym c.of_words-room.ensures) ∙ c.if-not-room.false) (ap Some c.of_words-room.ensures)
