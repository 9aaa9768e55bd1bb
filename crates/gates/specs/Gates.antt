-- Document 01, "What a call answers", and document 02, request 1: refusals in their order. The refusals 6 and 7 stand before every
-- call's own; a call's own stand in a row, and those of payloads that are too long stand here once, for every call to cite. Assumes
-- nothing.
use Rattle.std.specs.Prelude.{ℕ, Bool, not, List, [], ◌∷◌, Result, Ok, Err}
use Rattle.choice.specs.Pick.{pick, ◌and◌}
use Rattle.areas.specs.Areas.{long}
use Rattle.bars.specs.Bars.{Bar, ◌whenever◌}
use Rattle.record.specs.Answers.{Told, refuse}
use Rattle.record.specs.declared.Record.{Record}
use Rattle.answers.specs.declared.Refusal.{Refusal}
use Rattle.answers.specs.declared.Refusal.TheVariants.{BadArea, Damaged, LongCandidate, LongRecovery, LongSnapshot}
use Rattle.wholeness.specs.Whole.{whole}

-- "Order: 6, 7, then the call's own in the order below": over all that the call is lent together
unfoldable pub gate_of : Bool → Bool → Record → Result (Unit {0}) Refusal
gate_of sized sound r = pick (not sized) (Err BadArea) (pick (sound and whole r) (Ok tt) (Err Damaged))

-- a call goes on, or is refused
unfoldable pub gated : Result (Unit {0}) Refusal → Record → Told → Told
gated (Ok u) r own = own
gated (Err why) r own = refuse why r

-- "the call's own in the order below": the first whose test holds is given, and where none does, what follows is done
abbrev pub barring : List (Bar Refusal) → Record → Told → Told
barring [] r done = done
barring (b ∷ bs) r done = pick b.test (refuse b.why r) (barring bs r done)

-- "a payload over 4,096", and in the place of 8: "14 candidate, 15 recovery, .. in that order where several apply"
abbrev pub long_payloads : ℕ → ℕ → List (Bar Refusal) → List (Bar Refusal)
long_payloads candidate recovery next = LongCandidate whenever long candidate ∷ LongRecovery whenever long recovery ∷ next

-- "16 snapshot (open, recover, refresh)"
abbrev pub long_snapshot : ℕ → List (Bar Refusal) → List (Bar Refusal)
long_snapshot length next = LongSnapshot whenever long length ∷ next
