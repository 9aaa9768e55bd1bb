-- A whole record for every phase 0 to 13, for each kind of live ticket, and idle: no definition is met by nothing. And the record that a
-- refused opening returns, field by field. Assumes nothing.
use Prim.Native.Nat.{ℕ}
use mathlib.Core.Path.{◌≡◌, refl}
use mathlib.Core.Bool.{Bool, true, false, ◌&&◌}
use mathlib.Core.List.{List, [], ◌∷◌, map}
use Rattle.tickets.specs.Live.{work_of}
use Rattle.record.specs.Given.{at}
use Rattle.record.specs.Fields.{with_ticket, with_place, with_batch, with_staged}
use Rattle.record.specs.declared.Record.{Record}
use Rattle.tickets.specs.declared.Live.{Live}
use Rattle.tickets.specs.declared.Live.TheVariants.{None, Structure, Update, Rollback}
use Rattle.wholeness.specs.Whole.{whole}
use Rattle.step_opens.specs.Opening.{opening, open_step}
use Rattle.demand_cases.proofs.Computing.{called}

-- a staged record at serial 1: phase, forward, back; entries, applied, attempted, restoring; the live ticket
unfoldable pub staged : ℕ → ℕ → ℕ → ℕ → ℕ → ℕ → Bool → Live → Record
staged p f b n a k v l = with_ticket 1 l (with_place p f b (with_batch n a k v (with_staged true (opening (at 7 0 0) 3))))

-- one in phase 5
unfoldable pub updating : Record
updating = staged 5 4 0 3 1 2 false (Update 1)

abbrev all_whole : List Record → Bool
all_whole [] = true
all_whole (r ∷ rs) = whole r && all_whole rs

-- one for each phase, in order; those with a successor have a live structure ticket
pub phases : List Record
phases =
    staged 0 0 0 3 1 2 false (Update 1)
    ∷ staged 1 0 0 3 0 0 false (Structure 1)
    ∷ staged 2 1 0 3 0 0 false (Structure 1)
    ∷ staged 3 2 0 3 0 0 false (Structure 1)
    ∷ staged 4 3 0 3 0 0 false (Structure 1)
    ∷ updating
    ∷ staged 6 4 0 3 3 3 false (Structure 1)
    ∷ staged 7 5 0 3 3 3 false None
    ∷ staged 8 4 0 2 1 2 true (Rollback 1)
    ∷ staged 9 5 0 0 0 0 true (Structure 1)
    ∷ staged 10 2 1 0 0 0 true (Structure 1)
    ∷ staged 11 0 2 0 0 0 true (Structure 1)
    ∷ staged 12 5 3 0 0 0 true (Structure 1)
    ∷ staged 13 4 4 0 0 0 true None
    ∷ []

-- idle, and each kind of live ticket
pub kinds : List Record
kinds = opening (at 7 1 0) 3 ∷ staged 1 0 0 3 0 0 false (Structure 1) ∷ staged 5 4 0 3 0 1 false (Update 1) ∷ staged 0 0 0 2 1 2 true (Rollback 1) ∷ []

pub phases_whole : all_whole phases ≡ true
unfolding phases updating staged called
phases_whole = refl

pub phases_all : map (λ (r : Record). r.phase.number) phases ≡ 0 ∷ 1 ∷ 2 ∷ 3 ∷ 4 ∷ 5 ∷ 6 ∷ 7 ∷ 8 ∷ 9 ∷ 10 ∷ 11 ∷ 12 ∷ 13 ∷ []
unfolding phases updating staged opening
phases_all = refl

pub kinds_whole : all_whole kinds ≡ true
unfolding kinds staged called
kinds_whole = refl

pub kinds_all : map (λ (r : Record). work_of r.live) kinds ≡ 0 ∷ 1 ∷ 2 ∷ 3 ∷ []
unfolding kinds staged opening
kinds_all = refl

-- "the record of an opening at 0, 0 with an empty payload", and by request 3 with no replacement, whatever was given
pub unopened_met : (open_step false (at 7 5 2) 3).state ≡ record {
  revision = 0;
  serial = 0;
  replacements = 0;
  accepted = 0;
  candidate = 0;
  recovery = 0;
  staged = false;
  phase = record { number = 0 };
  forward = 0;
  back = 0;
  entries = 0;
  applied = 0;
  attempted = 0;
  restoring = false;
  live = None;
}
unfolding called
unopened_met = refl
