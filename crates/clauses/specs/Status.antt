-- The clauses of `effect_status`, `initialize_effect_status` and `cancel`: v is what the call answers and leaves. Assumes nothing.
use Rattle.std.specs.Prelude.{ℕ, ◌/◌, ◌≡◌, true, false, List, ◌≢◌, ◌↔◌, length, get_or}
use Rattle.answers.specs.Classes.Class.{performed}
use Rattle.status_bits.specs.Bits.{mark_linked, mark_cancelled, mark_initialized, mark_finished, has, allowed, next}
use Rattle.status_bits.specs.declared.StatusCall.{StatusCall}
use Rattle.status.specs.Status.{Marks, other_lengths, outside, bytes_sound}

-- where 6, 7 and the id's 13 are not given
pub record Place (groups status : List ℕ) (id : ℕ) : Type 0 where
  pub sized : other_lengths groups status ≡ false
  pub inside : outside status id ≡ false
  pub sound : bytes_sound (get_or groups id 0) (get_or status id 0) ≡ true

-- the byte at the id is the mark, and every other stays
pub record Sets (status : List ℕ) (id mark : ℕ) (after : List ℕ) : Type 0 where
  pub there : get_or after id 0 ≡ mark
  pub others : (j : ℕ) → j ≢ id → get_or after j 0 ≡ get_or status j 0
  pub size : length after ≡ length status

-- each call is allowed by the group byte and the status byte, and makes the status byte the next one
pub record MarkClauses (groups status : List ℕ) (id : ℕ) (c : StatusCall) (v : Marks) : Type 0 where
  -- some exactly if .. (C400, C410)
  pub c400 : (v.said.class ≡ performed) ↔ (Place groups status id × (allowed c (get_or groups id 0) (get_or status id 0) ≡ true))
  -- some implies the new byte, and every other as it was (C402, C405 to C407, C412, C388)
  pub c407 : v.said.class ≡ performed → Sets status id (next c (get_or status id 0)) v.status
  -- none implies `new == old`
  pub c408 : v.said.class ≢ performed → v.status ≡ status

-- the flags of a byte, linked, cancelled, initialized and finished: the initialized one is set alone
pub record Initializes (mark after : ℕ) : Type 0 where
  pub linked : has mark_linked after ≡ has mark_linked mark
  pub cancelled : has mark_cancelled after ≡ has mark_cancelled mark
  pub c412 : has mark_initialized after ≡ true
  pub finished : after / mark_finished ≡ mark / mark_finished

-- and the cancelled one. Upstream the other flags are free
pub record Cancels (mark after : ℕ) : Type 0 where
  pub linked : has mark_linked after ≡ has mark_linked mark
  pub c388 : has mark_cancelled after ≡ true
  pub initialized : has mark_initialized after ≡ has mark_initialized mark
  pub finished : after / mark_finished ≡ mark / mark_finished
