-- Chains through the recorder: with room enough a recorded chain has the records and the answers of the plain one, and the log is the
-- list of its written events in order. With room or without, a whole record stays whole and the head sound. Assumes nothing.
use Prim.Native.Nat.{ℕ, ◌+◌, ◌≤◌}
use mathlib.Core.Path.{◌≡◌, refl, sym, ◌∙◌, ap}
use mathlib.Core.Bool.{true}
use mathlib.Core.List.{List, [], ◌∷◌, ◌++◌, append-nil, append_assoc}
use lib.ListN.{length, length-append}
use native.Mathlib.Omega.{arith}
use Rattle.record.specs.Answers.{Told, refuse}
use Rattle.record.specs.Leaves.{Leaves}
use Rattle.record.specs.declared.Record.{Record}
use Rattle.record.specs.Given.{standing}
use Rattle.answers.specs.declared.Refusal.TheVariants.{LogFull}
use Rattle.wholeness.specs.Whole.{whole}
use Rattle.log_layout.specs.Log.{log_sized, count, room, sound}
use Rattle.events.specs.Entries.{Entry, entries, log_of}
use Rattle.log_layout.proofs.Room.{head_of}
use Rattle.events.proofs.Entries.{entries_length}
use Rattle.calls.specs.Calls.{Call, step}
use Rattle.demand_steps.specs.Typed.{Typed}
use Rattle.demand_steps.specs.Knowing.{Heard, hears}
use Rattle.demand_chains.specs.Chains.{after, heard}
use Rattle.demand_logs.specs.Logged.{logged_step, logged, events}
use Rattle.demand_logs.proofs.LoggedSteps.{Kept, Sound, event_of, kept, step_sound, step_length, refuses, logged-kept}

-- what every call keeps every chain keeps
keeps : (P : Record → List ℕ → Type 0) → ((r : Record) (log : List ℕ) (c : Call) → P r log → P (logged_step r log c).told.state (log_of (logged_step r log c)))
    → (cs : List Call) (r : Record) (log : List ℕ) → P r log → P (logged r log cs).state (logged r log cs).log
unfolding logged
keeps P f [] r log p = p
keeps P f (c ∷ cs) r log p = keeps P f cs _ _ (f r log c p)

-- whatever the log and its room
pub always_sound : (cs : List Call) (r : Record) (log : List ℕ) → sound log ≡ true → sound (logged r log cs).log ≡ true
always_sound = keeps (λ r l. sound l ≡ true) step_sound

pub always_length : (cs : List Call) (r : Record) (log : List ℕ) → length (logged r log cs).log ≡ length log
always_length cs r log = keeps (λ q l. length l ≡ length log) (λ q l c e. step_length q l c ∙ e) cs r log refl

pub logged_chain : (cs : List Call) (r : Record) (log : List ℕ) → log_sized (length log) ≡ true → sound log ≡ true → whole r ≡ true → Typed (standing r) →
    (whole (logged r log cs).state ≡ true) × (sound (logged r log cs).log ≡ true)
logged_chain cs r log h s w m =
    let k = keeps (λ q l. (Sound q × (sound l ≡ true)) × (length l ≡ length log))
    (λ q l c p. (logged-kept q l c (ap log_sized p.1 ∙ h) p.0.1 p.0.0, step_length q l c ∙ p.1)) cs r log (((w, m), s), refl) in
    (k.0.0.0, k.0.1)

-- what a recorded chain comes to
pub record Same (r : Record) (log : List ℕ) (cs : List Call) : Type 0 where
  pub same_record : (logged r log cs).state ≡ after r cs
  pub same_answers : (logged r log cs).heard ≡ heard r cs
  pub events_in_order : entries (logged r log cs).log ≡ entries log ++ events r cs
  pub head_sound_lem : sound (logged r log cs).log ≡ true
  pub same_length : length (logged r log cs).log ≡ length log

module _ (r : Record) (log : List ℕ) (c : Call) (cs : List Call) where
  abbrev next : List ℕ
  next = log_of (logged_step r log c)

  abbrev rest : List Entry
  rest = events (step r c).state cs

  -- a call that is answered 12, and the rest of the chain goes on as if it had not been made
  pub chain_goes_on : (logged_step r log c).told.number ≡ 12
      → ((logged r log (c ∷ cs)).state ≡ (logged r log cs).state) × ((logged r log (c ∷ cs)).log ≡ (logged r log cs).log)
      × ((logged r log (c ∷ cs)).heard ≡ hears c (refuse LogFull r) ∷ (logged r log cs).heard)
  unfolding logged
  chain_goes_on e = let z = refuses r log c e in (
    ap (λ (v : Leaves). (logged v.told.state (log_of v) cs).state) z,
    ap (λ (v : Leaves). (logged v.told.state (log_of v) cs).log) z,
    ap (λ (v : Leaves). hears c v.told ∷ (logged v.told.state (log_of v) cs).heard) z,
  )

  -- a call that finds room, and then the rest of the chain
  onward : sound log ≡ true → Kept r log c (logged_step r log c) → Same (step r c).state next cs → Same r log (c ∷ cs)
  unfolding logged after heard events
  onward s k t = record {
    same_record = ap (λ (x : Told). (logged x.state next cs).state) k.told ∙ t.same_record;
    same_answers =
        ap (λ (x : Told). hears c x ∷ (logged x.state next cs).heard) k.told ∙ ap (λ (hs : List Heard). hears c (step r c) ∷ hs) t.same_answers;
    events_in_order =
        ap (λ (x : Told). entries (logged x.state next cs).log) k.told
        ∙ t.events_in_order
        ∙ ap (λ (es : List Entry). es ++ rest) k.noting
        ∙ append_assoc (entries log) (event_of r c) rest;
    head_sound_lem = always_sound (c ∷ cs) r log s;
    same_length = always_length (c ∷ cs) r log;
  }

  -- the room for a chain is room for its first call, and leaves room for the rest
  parted : count log + length (events r (c ∷ cs)) ≤ room log → count log + length (event_of r c) + length rest ≤ room log
  unfolding events
  parted f = let n = length-append (event_of r c) rest in omega arith

  left : sound log ≡ true → Kept r log c (logged_step r log c) → count log + length (event_of r c) + length rest ≤ room log
      → count next + length rest ≤ room next
  left s k f =
      let n = sym (entries_length next) ∙ ap length k.noting ∙ length-append (entries log) (event_of r c) in
      omega (arith, head_of log s, head_of next (step_sound r log c s), entries_length log, step_length r log c)

-- "with room enough": the log has the right size, its head is sound, and what is to be written fits
pub same_chain : (cs : List Call) (r : Record) (log : List ℕ) → log_sized (length log) ≡ true → sound log ≡ true
    → count log + length (events r cs) ≤ room log → Same r log cs
unfolding logged after heard events
same_chain [] r log h s f =
    record { same_record = refl; same_answers = refl; events_in_order = sym (append-nil (entries log)); head_sound_lem = s; same_length = refl }
same_chain (c ∷ cs) r log h s f =
    let p = parted r log c cs f in
    let k = kept r log c h s (omega arith) in
    onward r log c cs s k
    (same_chain cs (step r c).state (next r log c cs) (ap log_sized (step_length r log c) ∙ h) (step_sound r log c s) (left r log c cs s k p))
