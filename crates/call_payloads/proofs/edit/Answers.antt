-- `call_payloads::edit` meets its contract: the step goes by the sizes of both areas. Assumes nothing.
use Rattle.moves.proofs.Sizes.{both_areas}
use Rattle.call_payloads.proofs.edit.Goals as goal

pub returns : goal.returns
returns c = search both_areas
