-- Document 01, "The steps": stamps, and their checking. Assumes nothing.
use Rattle.std.specs.Prelude.{ℕ, Bool, true, false, not, [], ◌∷◌, eqb, Result, Ok, Err}
use Rattle.choice.specs.Pick.{pick, ◌and◌}
use Rattle.wholeness.specs.Whole.{whole}
use Rattle.answers.specs.Classes.Class.{performed, refusal}
use Rattle.answers.specs.Answers.{Said, said}
use Rattle.record.specs.declared.Record.{Record}
use Rattle.answers.specs.declared.Refusal.{Refusal}
use Rattle.answers.specs.declared.Refusal.TheVariants as why
use Rattle.step_stamps.specs.declared.SaveStamp.{SaveStamp}

-- the number and values of each case: a stamp's three numbers; "yes, no or 7", yes being 1 and no 0
abbrev pub says_stamping : Result SaveStamp Refusal → Said
says_stamping (Ok s) = said performed (s.domain ∷ s.revision ∷ s.replacements ∷ [])
says_stamping (Err w) = said (refusal w) []

abbrev pub says_checked : Result Bool Refusal → Said
says_checked (Ok true) = said performed (1 ∷ [])
says_checked (Ok false) = said performed (0 ∷ [])
says_checked (Err w) = said (refusal w) []

-- "Stamp is (domain, revision), refused 1."; request 3: "the stamp carries it as a third number"
abbrev pub stamp_of : ℕ → Record → SaveStamp
stamp_of domain r = record { domain = domain; revision = r.revision; replacements = r.replacements }

unfoldable pub stamp_step : Record → ℕ → Said
stamp_step r domain =
    pick (not (whole r)) (says_stamping (Err why.Damaged))
    (pick r.staged (says_stamping (Err why.Pending))
    (says_stamping (Ok (stamp_of domain r))))

-- "It passes exactly if not staged and both numbers agree.", with the third
unfoldable pub passes : Record → ℕ → SaveStamp → Bool
passes r domain stamp =
    not r.staged and eqb domain stamp.domain and eqb r.revision stamp.revision and eqb r.replacements stamp.replacements

unfoldable pub check_step : Record → ℕ → SaveStamp → Said
check_step r domain stamp =
    pick (not (whole r)) (says_checked (Err why.Damaged)) (pick (passes r domain stamp) (says_checked (Ok true)) (says_checked (Ok false)))
