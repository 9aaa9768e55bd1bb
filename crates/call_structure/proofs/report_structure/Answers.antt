-- `call_structure::report_structure` meets its contract: the step goes by the sizes of both areas. Assumes nothing.
use Rattle.moves.proofs.Sizes.{both_areas}
use Rattle.call_structure.proofs.report_structure.Goals as goal

pub returns : goal.returns
returns c = search both_areas
