-- One call through the log. Where the log is of the right size, its head is sound and there is room for its event, it is the plain call,
-- and its event comes last in the log; where the event does not fit, the answer is 12 and nothing changes. Whatever the room, a whole
-- record stays whole and a sound head sound. And it is what the recorder promises. Assumes nothing.
use Prim.Native.Nat.{ℕ, ◌+◌, ◌≤◌}
use mathlib.Core.Path.{◌≡◌, refl, sym, ◌∙◌, ap, subst}
use mathlib.Core.Bool.{Bool, true, false}
use mathlib.Core.Logic.{◌↔◌}
use mathlib.Core.List.{List, [], ◌∷◌, ◌++◌, append-nil}
use lib.Dec.{eqb}
use lib.ListN.{length}
use native.Mathlib.Omega.{arith}
use borrow.Author.Tests.{eqb-false}
use Rattle.choice.specs.Pick.{pick, ◌and◌}
use Rattle.choice.proofs.Picks.{yes, no, picked}
use Rattle.choice.proofs.Tests.{never, test}
use Rattle.answers.specs.Classes.{Class}
use Rattle.record.specs.Answers.{Told, refuse}
use Rattle.record.specs.Leaves.{Leaves, leaves}
use Rattle.record.specs.declared.Record.{Record}
use Rattle.record.specs.Given.{standing}
use Rattle.answers.specs.declared.Refusal.TheVariants.{LogFull}
use Rattle.wholeness.specs.Whole.{whole}
use Rattle.log_layout.specs.Log.{log_sized, count, room, sound, full}
use Rattle.events.specs.Entries.{Entry, entries, log_of, event_if}
use Rattle.log_layout.proofs.Room.{not_full}
use Rattle.noting.specs.Recorded.{recorded}
use Rattle.noting.specs.Through.{leaves_through}
use Rattle.events.proofs.Laws.{either, stays_sound, same_length}
use Rattle.events.proofs.Noting.{noted_one, noted_none, same-told, noted-last, full_changes_nothing, Agrees, log_decides}
use Rattle.calls.specs.Calls.{Call, step_with, step}
use Rattle.calls.specs.Calls.AnyCall.{calls}
use Rattle.calls.specs.Lending.{Lending, call_of, fits, lent, moved}
use Rattle.calls.specs.Kinds.{no_kind, kind_of, written_as}
use Rattle.demand_steps.specs.Typed.{Typed}
use Rattle.demand_chains.specs.Sending.{written}
use Rattle.demand_refusals.proofs.NeverFull.{never_full}
use Rattle.demand_chains.proofs.Sending.{recorded_answer}
use Rattle.demand_chains.proofs.Chain.{whole_kept}
use Rattle.demand_logs.specs.Logged.{logged_step}

-- the event of the plain call, if it has one
abbrev pub event_of : Record → Call → List Entry
event_of r c = event_if (written c) (kind_of c) (step r c)

-- what an end of the call c on r and log is to be: the plain call's, with its event last in the log
pub record Kept (r : Record) (log : List ℕ) (c : Call) (v : Leaves) : Type 0 where
  pub told : v.told ≡ step r c
  pub noting : entries (log_of v) ≡ entries log ++ event_of r c

-- a record that a call may leave: whole, and its revision and its count u64s
abbrev pub Sound : Record → Type 0
Sound r = (whole r ≡ true) × Typed (standing r)

-- "Opening, stamps and edits are not written": nor is any call without a kind
unwritten : (c : Call) (a : Class) → eqb (kind_of c) no_kind ≡ true → written c a ≡ false
unfolding written_as
unwritten c a k = sym (yes _ k refl)

-- with all that a call is lent besides the log
module _ (sized sound : Bool) (r : Record) (log : List ℕ) (c : Call) (lent moved : List (List ℕ)) where
  abbrev left : Leaves
  left = recorded (written c) (kind_of c) (step_with sized sound r c) r log lent moved

  -- "12 LogFull: no room for an event to be written"
  pub full_exactly : (left.told.number ≡ 12) ↔ (written c (step_with sized sound r c).class and full log ≡ true)
  full_exactly =
      subst (λ (t : Told). (t.number ≡ 12) ↔ (written c (step_with sized sound r c).class and full log ≡ true)) (sym (recorded_answer _ _ _ r log lent moved))
      (picked (λ (t : Told). (t.number ≡ 12) ↔ (written c (step_with sized sound r c).class and full log ≡ true)) _ (λ e. (λ z. e, λ z. refl))
      (λ e. (λ z. absurd (eqb-false _ _ (never_full sized sound r c) z), λ z. never (sym z ∙ e))))

  -- "Where an entry does not fit, 12 is the whole answer": the record is returned equal, and the log and all else that is lent stay
  pub lent_stays : left.told.number ≡ 12 → left ≡ leaves (refuse LogFull r) (log ∷ lent)
  lent_stays = full_changes_nothing (written c) (kind_of c) (step_with sized sound r c) r log lent moved (never_full sized sound r c)

module _ (r : Record) (log : List ℕ) (c : Call) where
  abbrev through : Told → Leaves
  through t = recorded (written c) (kind_of c) t r log [] []

  -- without a kind, the plain call; else through the recorder
  by_kind : (P : Leaves → Type 0) → (eqb (kind_of c) no_kind ≡ true → P (leaves (step r c) (log ∷ [])))
      → P (through (step_with (log_sized (length log)) (sound log) r c)) → P (logged_step r log c)
  unfolding logged_step
  by_kind P p q = test (eqb (kind_of c) no_kind) (λ k. subst P (yes _ k refl) (p k)) (λ k. subst P (no _ k refl) q)

  -- whatever its size and its room, a sound head stays sound, and the log as long as it was
  pub step_sound : sound log ≡ true → sound (log_of (logged_step r log c)) ≡ true
  step_sound s = by_kind (λ (v : Leaves). sound (log_of v) ≡ true) (λ k. s) (stays_sound (written c) (kind_of c) _ r log [] [] s)

  pub step_length : length (log_of (logged_step r log c)) ≡ length log
  step_length = by_kind (λ (v : Leaves). length (log_of v) ≡ length log) (λ k. refl) (same_length (written c) (kind_of c) _ r log [] [])

  -- answered 12, it is no more than that
  pub refuses : (logged_step r log c).told.number ≡ 12 → logged_step r log c ≡ leaves (refuse LogFull r) (log ∷ [])
  refuses =
      by_kind (λ (v : Leaves). v.told.number ≡ 12 → v ≡ leaves (refuse LogFull r) (log ∷ []))
      (λ k z. absurd (eqb-false _ _ (never_full true true r c) z)) (lent_stays _ _ r log c [] [])

  pub log_full_changes_nothing : (logged_step r log c).told.number ≡ 12 → ((logged_step r log c).told.state ≡ r) × (log_of (logged_step r log c) ≡ log)
  log_full_changes_nothing e = (ap (λ (v : Leaves). v.told.state) (refuses e), ap log_of (refuses e))

  module _ (h : log_sized (length log) ≡ true) (s : sound log ≡ true) where
    -- all being in order, the step is the plain one
    plain : step_with (log_sized (length log)) (sound log) r c ≡ step r c
    plain = ap (λ (b : Bool). step_with b (sound log) r c) h ∙ ap (λ (b : Bool). step_with true b r c) s

    plainly : (P : Leaves → Type 0) → (eqb (kind_of c) no_kind ≡ true → P (leaves (step r c) (log ∷ []))) → P (through (step r c)) → P (logged_step r log c)
    plainly P p q = by_kind P p (subst (λ (t : Told). P (through t)) (sym plain) q)

    pub kept : count log + length (event_of r c) ≤ room log → Kept r log c (logged_step r log c)
    kept f =
        plainly (Kept r log c)
        (λ k. record {
          told = refl;
          noting =
              sym (append-nil (entries log))
              ∙ sym (ap (λ (es : List Entry). entries log ++ es) (noted_none (written c) (kind_of c) (step r c) (unwritten c _ k)));
        })
        (record {
          told = same-told (written c) (kind_of c) (step r c) r log [] [] free;
          noting = noted-last (written c) (kind_of c) (step r c) r log [] [] free s;
        })
      where
        free : written c (step r c).class ≡ true → full log ≡ false
        free w = let n = noted_one (written c) (kind_of c) (step r c) w in not_full log s (omega arith)

    pub logged-kept : Sound r → Sound (logged_step r log c).told.state × (sound (log_of (logged_step r log c)) ≡ true)
    unfolding recorded
    logged-kept p =
        let q = whole_kept r c p.1 p.0 in
        (plainly (λ (v : Leaves). Sound v.told.state) (λ k. q) (either (λ (v : Leaves). Sound v.told.state) _ _ _ _ _ q p q), step_sound s)

module _ (r : Record) (log : List ℕ) where
  -- each promise of the recorder is the logged step, where what is lent besides the log has the right sizes: they tell the same and leave
  -- the same log
  pub recorder_tie : (l : Lending true) (c : Call) → call_of l ≡ calls c → eqb (kind_of c) no_kind ≡ false → fits l ≡ true
      → Agrees (leaves_through r log l) (logged_step r log c)
  unfolding leaves_through logged_step pick
  recorder_tie l c e k h = rw (e, k) (log_decides (written c) (kind_of c) (λ p q. step_with p q r c) r log (lent l) (moved r l) (fits l) h)

  -- "stamps and edits are not written": these are the plain calls, and are lent no log
  pub unwritten_tie : (c : Call) → eqb (kind_of c) no_kind ≡ true → logged_step r log c ≡ leaves (step r c) (log ∷ [])
  unfolding logged_step
  unwritten_tie c k = sym (yes _ k refl)
