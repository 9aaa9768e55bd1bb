-- A chain from an opening through the recorder that is not refused: its log is the list of its events and nothing else. Assumes nothing.
use Prim.Native.Nat.{ℕ, ◌≤◌}
use mathlib.Core.Path.{◌≡◌, refl, sym, ◌∙◌, ap}
use mathlib.Core.Bool.{Bool, true, false}
use mathlib.Core.List.{List, ◌∷◌, [], ◌++◌}
use lib.ListN.{length}
use native.Mathlib.Omega.{arith}
use Rattle.choice.specs.Pick.{pick, ◌and◌}
use Rattle.choice.proofs.Picks.{no}
use Rattle.choice.proofs.Tests.{never, both}
use Rattle.areas.specs.Areas.{sized, copied}
use Rattle.answers.specs.Classes.{refused}
use Rattle.record.specs.Leaves.{Leaves, leaves}
use Rattle.record.specs.declared.Opening.{Opening}
use Rattle.step_opens.specs.Opening.{open_step}
use Rattle.log_layout.specs.Log.{log_sized, count, room, room_of, sound, blank}
use Rattle.events.specs.Entries.{Entry, entries, log_of}
use Rattle.events.proofs.Soundness.{blank_length, blank_count, blank_room, blank_sound}
use Rattle.events.proofs.Entries.{none_opened}
use Rattle.noting.specs.Recorded.{with_log}
use Rattle.calls.specs.Calls.{Call}
use Rattle.calls.specs.Lending.{Lending, leaves_of, unopened}
use Rattle.calls.specs.Kinds.{kind_of, written_as}
use Rattle.noting.specs.Through.{leaves_through}
use Rattle.demand_logs.specs.Logged.{logged, events}
use Rattle.demand_logs.proofs.LoggedChains.{Same, same_chain}

-- "Refuses 6": what is not refused was of the right size
opens : (fits : Bool) (given : Opening) (n : ℕ) → refused (open_step fits given n).class ≡ false → fits ≡ true
unfolding open_step pick
opens true given n h = refl
opens false given n h = never h

module _ (given : Opening) (log a payload : List ℕ) where
  abbrev opened : Leaves
  opened = leaves_through unopened log (Lending.open_at given a payload)

  module _ (h : refused opened.told.class ≡ false) where
    fits : (with_log (sized a) log).sized ≡ true
    unfolding leaves_through kind_of written_as ◌and◌ pick
    fits = opens _ given (length payload) h

    log-sized : log_sized (length log) ≡ true
    unfolding with_log
    log-sized = (both fits).1

    -- the opening is the plain one
    pub same-opening : opened.told ≡ (leaves_of unopened (Lending.open_at given a payload)).told
    unfolding leaves_through kind_of written_as with_log ◌and◌ pick
    same-opening = ap (λ (b : Bool). open_step b given (length payload)) (fits ∙ sym (both fits).0)

    -- "Opening writes the head from the length and zeroes the event words."
    cleared : log_of opened ≡ blank log
    unfolding leaves_through kind_of written_as ◌and◌ pick
    cleared = sym (ap (λ (l : List (List ℕ)). log_of (leaves opened.told l)) (no {z = blank log ∷ copied payload a ∷ []} (log ∷ a ∷ []) h refl))

    pub opened-sound : sound (log_of opened) ≡ true
    opened-sound = ap sound cleared ∙ blank_sound log log-sized

    -- with room for its events, the chain from there
    pub from-opening : (cs : List Call) → length (events opened.told.state cs) ≤ room_of (length log)
        → Same opened.told.state (log_of opened) cs × (entries (logged opened.told.state (log_of opened) cs).log ≡ events opened.told.state cs)
    from-opening cs f =
        let n = ap count cleared ∙ blank_count log log-sized in
        let m = ap room cleared ∙ blank_room log log-sized in
        let size = ap (λ (l : List ℕ). log_sized (length l)) cleared ∙ ap log_sized (blank_length log log-sized) ∙ log-sized in
        let s = same_chain cs opened.told.state (log_of opened) size opened-sound (omega arith) in
        (s, s.events_in_order ∙ ap (λ (es : List Entry). es ++ events opened.told.state cs) (ap entries cleared ∙ none_opened log log-sized))
