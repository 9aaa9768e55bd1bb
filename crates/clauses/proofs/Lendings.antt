-- What each call that is lent areas or the table does with them; payloads and pairs are read back. Assumes nothing.
use Prim.Native.Nat.{ℕ, ◌+◌, ◌*◌, ◌≤◌}
use mathlib.Core.{Path.◌≡◌, Path.refl, Path.sym, Path.◌∙◌, Path.ap, Bool.Bool, Bool.true, Bool.false, List.List}
use native.Mathlib.Omega.{arith}
use lib.{ListN.length, ListN.drop, ListN.get_or-append, Seq.take-append_seam}
use Rattle.choice.specs.Pick.{pick}
use Rattle.choice.proofs.{Picks.yes, Picks.no, Tests.tests, Tests.never}
use Rattle.areas.specs.Areas.{area_size, sized, copied}
use Rattle.areas.proofs.Laws.{copied_fits}
use Rattle.batch.specs.Batch.{table_words, table_sized, pairs_in}
use Rattle.record.specs.{Answers.Told, Answers.refuse, declared.Record.Record}
use Rattle.answers.specs.{declared.Refusal.TheVariants.BadArea}
use Rattle.gates.specs.Gates.{gate_of, gated}
use Rattle.calls.specs.{Calls.Call, Calls.step_of, Calls.AnyCall.calls, Calls.Work.structure, Calls.Work.update, Calls.Work.rollback, Lending.Stored.structured}
use Rattle.calls.specs.{Lending.Stored.updated, Lending.Stored.rolledBack, Lending.Lending, Lending.call_of, Lending.fits}
use Rattle.calls.specs.Lending.Lending.{open_at, begin, ask, report, edit, commit, recover, recover_retained, refresh, stamp, check}
use Rattle.clauses.specs.Lending.{payload, unrecorded, Lends, ReadBack}

module _ (r : Record) where
  -- a call's gate is that for all that it is lent, and stamps and checks are lent nothing and are not recorded
  pub data Gates {logged : Bool} (c : Lending logged) : Type 0 where
    behind : (own : Told) → ((sized sound : Bool) → step_of sized sound r (call_of c) ≡ gated (gate_of sized sound r) r own) → Gates c
    alone : fits c ≡ true → logged ≡ false → Gates c

  pub gates : {logged : Bool} (c : Lending logged) {d : Call} → call_of c ≡ calls d → Gates c
  gates (open_at given a p) e = let z : ◌≡◌ {A = ℕ} 0 1 = cc in absurd (omega arith)
  gates (begin structural c o t new old pairs) e = behind _ (λ s b. refl)
  gates (ask structure) e = behind _ (λ s b. refl)
  gates (ask update) e = behind _ (λ s b. refl)
  gates (ask rollback) e = behind _ (λ s b. refl)
  gates (report (structured c o new old) k x) e = behind _ (λ s b. refl)
  gates (report (updated t value) k x) e = behind _ (λ s b. refl)
  gates (report (rolledBack t value) k x) e = behind _ (λ s b. refl)
  gates (edit c o new old) e = behind _ (λ s b. refl)
  gates (commit a c) e = behind _ (λ s b. refl)
  gates (recover a x n) e = behind _ (λ s b. refl)
  gates (recover_retained a o x) e = behind _ (λ s b. refl)
  gates (refresh a x n) e = behind _ (λ s b. refl)
  gates (stamp domain) e = alone refl refl
  gates (check domain s) e = alone refl refl

  module _ {logged : Bool} (c : Lending logged) {d : Call} (e : call_of c ≡ calls d) where
    bad_size : Gates c → fits c ≡ false → step_of false true r (call_of c) ≡ refuse BadArea r
    unfolding gate_of gated pick
    bad_size (behind own is) f = is false true
    bad_size (alone s l) f = never (sym s ∙ f)

    at_size : {b : Bool} → fits c ≡ b → step_of (fits c) true r (call_of c) ≡ step_of b true r (call_of c)
    at_size f = ap (λ (s : Bool). step_of s true r (call_of c)) f

    pub lends : Lends r c d (unrecorded r c)
    lends = record {
      tells = λ f. at_size f ∙ ap (step_of true true r) e;
      bad = λ f. at_size f ∙ bad_size (gates c e) f;
      stays = λ f. sym (yes _ f refl);
      moves = λ f. sym (no _ f refl);
    }

-- a payload that fits is read back from its area
pub payload_copied : (new area : List ℕ) → sized area ≡ true → length new ≤ area_size → payload (length new) (copied new area) ≡ new
unfolding sized
payload_copied new area s h = rw (copied_fits new area (omega tests)) (take-append_seam new (drop (length new) area))

-- and so are pairs that fit from the table
pub pairs_copied : (pairs table : List ℕ) → table_sized table ≡ true → length pairs ≤ table_words → ReadBack pairs (pairs_in pairs table)
unfolding table_sized pairs_in
pairs_copied pairs table s h = rw (copied_fits pairs table (omega tests)) record {
  identities = λ i j. get_or-append pairs _ 0 (2 * i) (omega arith);
  payloads = λ i j. get_or-append pairs _ 0 (2 * i + 1) j;
}
