-- `new` and the recorder's `new` and `new_in`, clause by clause. Assumes nothing.
use Prim.Native.Nat.{ℕ, zero, suc, ◌-◌, ◌≤◌}
use mathlib.Core.{Path.◌≡◌, Path.refl, Path.sym, Path.ap, Bool.Bool, Bool.true, Bool.false, Bool.not, List.List, List.[], List.◌∷◌}
use native.Mathlib.Omega.{arith}
use lib.ListN.{length, get_or, replicate}
use borrow.Author.Tests.{not-false}
use Rattle.choice.proofs.{Picks.no, Tests.both}
use Rattle.areas.specs.Areas.{area_size, sized, copied}
use Rattle.areas.proofs.Laws.{within, not_over}
use Rattle.record.specs.{Answers.Told, Answers.answer, Leaves.moving, Given.at, declared.Opening.Opening}
use Rattle.answers.specs.{Classes.Class.performed, Classes.refused, declared.Answer.TheVariants.Done, declared.Was.TheVariants.Nothing}
use Rattle.answers.specs.declared.Refusal.TheVariants.{BadArea, LongSnapshot}
use Rattle.wholeness.specs.Whole.{whole}
use Rattle.gates.proofs.Passing.{fails}
use Rattle.step_opens.specs.Opening.{opening, open_bars, open_step}
use Rattle.log_layout.specs.Log.{head_words, blank}
use Rattle.events.proofs.Soundness.{blank_is}
use Rattle.noting.specs.{Recorded.with_log, Through.leaves_through}
use Rattle.calls.specs.Lending.{Lending, leaves_of, unopened}
use Rattle.demand_steps.specs.Typed.{Typed}
use Rattle.demand_steps.proofs.{Wholeness.whole_test, Advancing.idles}
use Rattle.clauses.specs.{Staging.OpenClauses, Lending.Opens, Recording.OpenRecorded}
use Rattle.clauses.proofs.{Splitting.Decided, Splitting.decide, Splitting.decides, Splitting.only, Splitting.keeps, Lendings.payload_copied}

-- an opening is whole
opening_whole : (given : Opening) (l : ℕ) → Typed given → l ≤ area_size → whole (opening given l) ≡ true
opening_whole given l m h = whole_test (idles given l m h)

module _ (given : Opening) (m : Typed given) where
  module _ (sizes : Bool) (l : ℕ) where
    pub opened : Decided unopened (λ c. refused c ≡ true) (answer (Done Nothing) (opening given l)) (open_bars sizes l) (open_step sizes given l)
    unfolding open_step
    opened = decide (open_bars sizes l) (λ e. refl, λ e₁. (λ e. refl, λ e₂. refl))

    wf : {t : Told} → Decided unopened (λ c. refused c ≡ true) (answer (Done Nothing) (opening given l)) (open_bars sizes l) t → whole t.state ≡ true
    wf (Decided.refuses n e) = opening_whole (at 0 0 0) 0 (omega arith) (omega arith)
    wf (Decided.does x) = opening_whole given l m (within l (fails (open_bars sizes l) x LongSnapshot))

    pub open-clauses : OpenClauses sizes given l (open_step sizes given l)
    unfolding opening
    open-clauses = record {
      fits = decides opened refl (λ x. let f = fails (open_bars sizes l) x in
          (not-false _ (f BadArea), within l (f LongSnapshot))) (λ y. (ap not y.0, (not_over l y.1, refl)));
      c107 = wf opened;
      c108 = only (λ t. t.state.accepted ≡ l) opened (λ x. refl);
      c109 = only (λ t. t.state.revision ≡ given.revision) opened (λ x. refl);
      c110 = keeps (λ s. s.staged ≡ false) opened refl refl;
      c111 = keeps (λ s. s.entries ≡ 0) opened refl refl;
      c111_record = only (λ t. t.state ≡ opening given l) opened (λ x. refl);
    }

  -- what an opening that is not refused moves
  moved : (t : Told) (lent after : List (List ℕ)) → t.class ≡ performed → (moving t lent after).lent ≡ after
  moved t lent after h = sym (no _ (ap refused h) refl)

  module _ (a payload : List ℕ) where
    pub open-areas : let v = leaves_of unopened (Lending.open_at given a payload) in v.told.class ≡ performed → Opens payload v
    open-areas h =
        let x = open-clauses (sized a) (length payload) in
        let y = x.fits.0 h in
        record { c108 = rw (x.c108 h, moved (open_step (sized a) given (length payload)) (a ∷ []) (copied payload a ∷ []) h) (payload_copied payload a y.0 y.1) }

    -- every word that an opening zeroes is read as zero
    zeros : (n i : ℕ) → ◌≡◌ {A = ℕ} (get_or (replicate n 0) i 0) 0
    zeros zero i = refl
    zeros (suc n) zero = refl
    zeros (suc n) (suc i) = zeros n i

    pub open-recorded : (log : List ℕ) → let v = leaves_through unopened log (Lending.open_at given a payload) in v.told.class ≡ performed → OpenRecorded given payload v
    unfolding leaves_through with_log
    open-recorded log h =
        let s = (with_log (sized a) log).sized in
        let x = open-clauses s (length payload) in
        let y = x.fits.0 h in
        let z = both y.0 in
        rw (moved (open_step s given (length payload)) (log ∷ a ∷ []) (blank log ∷ copied payload a ∷ []) h, blank_is log z.1) record {
          c272 = rw (x.c108 h) (payload_copied payload a z.0 y.1);
          c273 = x.c109 h;
          c274 = x.c110;
          c275 = refl;
          c275_words = zeros (length log - head_words);
        }
