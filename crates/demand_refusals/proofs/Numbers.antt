-- The numbers of documents 01 and 02 hold of the names: every class of answers, every kind of event, every status bit. Assumes nothing.
use mathlib.Core.Path.{refl}
use Rattle.choice.specs.Pick.{◌and◌, ◌or◌}
use Rattle.answers.specs.Classes.{Class, number_of, refusal_written}
use Rattle.answers.specs.Classes.Class.{performed, refusal, stepping}
use Rattle.answers.specs.Classes.StepAnswer.{ticket, waiting, failed, more, finished}
use Rattle.answers.specs.declared.Refusal.TheVariants.{Pending, Idle, Capacity, NotReady, Recovering, BadArea, Damaged, TooMany, Stale, Worn, LogFull, NoStatus, LongCandidate, LongRecovery, LongSnapshot}
use Rattle.calls.specs.Kinds.{kind_of}
use Rattle.demand_refusals.specs.Numbers.{Numbered, Kinds, Bits}

pub numbered : (c : Class) → Numbered c (number_of c)
unfolding refusal_written ◌and◌ ◌or◌
numbered performed = search
numbered (refusal Pending) = search
numbered (refusal Idle) = search
numbered (refusal Capacity) = search
numbered (refusal NotReady) = search
numbered (refusal Recovering) = search
numbered (refusal BadArea) = search
numbered (refusal Damaged) = search
numbered (refusal TooMany) = search
numbered (refusal Stale) = search
numbered (refusal Worn) = search
numbered (refusal LogFull) = search
numbered (refusal NoStatus) = search
numbered (refusal LongCandidate) = search
numbered (refusal LongRecovery) = search
numbered (refusal LongSnapshot) = search
numbered (stepping ticket) = search
numbered (stepping waiting) = search
numbered (stepping failed) = search
numbered (stepping more) = search
numbered (stepping finished) = search

pub kinds : Kinds
unfolding Kinds kind_of
kinds b c o t n x = refl

pub bits : Bits
unfolding Bits
bits = refl
