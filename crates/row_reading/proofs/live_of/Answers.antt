-- `row_reading::live_of` meets its contract. Assumes nothing.
use Rattle.choice.specs.Pick.{pick}
use Rattle.choice.proofs.Tests.{branches}
use Rattle.row_reading.specs.RowReading.{live_of}
use Rattle.row_reading.proofs.live_of.Goals as goal

pub returns-in-1 : goal.returns-in-1
unfolding live_of pick
returns-in-1 c = search branches

pub returns-in-2 : goal.returns-in-2
unfolding live_of pick
returns-in-2 c = search branches

pub returns-in-3 : goal.returns-in-3
unfolding live_of pick
returns-in-3 c = search branches

pub returns-in_default : goal.returns-in_default
unfolding live_of pick
returns-in_default c = search branches
