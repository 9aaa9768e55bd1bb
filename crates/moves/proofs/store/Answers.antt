-- `moves::store` meets its contract. Assumes nothing.
use Rattle.moves.proofs.Laws.{ends}
use Rattle.moves.proofs.store.Goals as goal

pub returns-then-not-is_refused : goal.returns-then-not-is_refused
returns-then-not-is_refused c = search ends

pub returns-else-not-is_refused : goal.returns-else-not-is_refused
returns-else-not-is_refused c = search ends
