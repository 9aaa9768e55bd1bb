-- Document 01, "The steps": what the three reports share: the ticket that is not the live one, and what a report does that is taken.
-- Assumes nothing.
use Rattle.std.specs.Prelude.{ℕ, not, List, ◌∷◌}
use Rattle.tickets.specs.Live.{is_live}
use Rattle.record.specs.Answers.{Told, answer}
use Rattle.record.specs.Given.{Effect}
use Rattle.record.specs.Given.Effect.{rests, works}
use Rattle.answers.specs.declared.Refusal.{Refusal}
use Rattle.bars.specs.Bars.{Bar, ◌whenever◌}
use Rattle.record.specs.declared.Record.{Record}
use Rattle.answers.specs.declared.Refusal.TheVariants.{Stale}

-- "10": the ticket is not the live one of that kind
abbrev pub stale : ℕ → ℕ → Record → List (Bar Refusal) → List (Bar Refusal)
stale work ticket r next = Stale whenever not (is_live work ticket r.live) ∷ next

-- "Waiting and Failed answer 21 and 22 and do nothing else"
unfoldable pub reported : Effect → Record → Told → Told
reported (rests a) r done = answer a r
reported works r done = done
