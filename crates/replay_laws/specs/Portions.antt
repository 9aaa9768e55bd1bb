-- Document 02, request 4: "two portions equal one". Assumes nothing.
use Rattle.std.specs.Prelude.{◌+◌, Ok, Err}
use Rattle.input_events.specs.declared.Fault.TheVariants.{BadEvent, Refused}
use Rattle.replays.specs.Replaying.{Ending, Standing, standing}

-- how two portions in a row ended: where the first met a bad event, or was refused, there was no more to run
abbrev pub both_end : Ending → Ending → Ending
both_end (Ok u) then = then
both_end (Err (BadEvent number)) then = Err (BadEvent number)
both_end (Err (Refused why)) then = Err (Refused why)

-- a portion, and one that went on from where it stood: together they ran as many as both
abbrev pub joined : Standing → Standing → Standing
joined one two = standing two.state two.position (one.ran + two.ran) (both_end one.ending two.ending) two.answers
