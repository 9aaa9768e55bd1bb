-- `refresh`, `save_stamp` and `accepts_save`, clause by clause. Assumes nothing.
use Prim.Native.Nat.{ℕ}
use mathlib.Core.{Path.◌≡◌, Path.refl, Path.ap, Bool.true, List.List, List.[], List.◌∷◌}
use native.Mathlib.Omega.{arith}
use lib.ListN.{get_or}
use borrow.Author.Tests.{eq-eqb, ne_eqb, eqb-true, not-true}
use Rattle.choice.proofs.Tests.{never, both, join, eqb_ne}
use Rattle.areas.proofs.Laws.{within, not_over}
use Rattle.record.specs.{Answers.answer, declared.Record.Record, Given.standing}
use Rattle.answers.specs.{Classes.refused, declared.Answer.TheVariants.Done, declared.Was.TheVariants.One}
use Rattle.answers.specs.declared.Refusal.TheVariants.{Pending, Capacity, LongSnapshot}
use Rattle.wholeness.specs.Whole.{whole}
use Rattle.gates.proofs.Passing.{fails}
use Rattle.step_ends.specs.Ending as Ending
use Rattle.step_ends.specs.Ending.{refresh_bars, refresh_own}
use Rattle.step_stamps.specs.{Stamping.passes, declared.SaveStamp.SaveStamp}
use Rattle.calls.specs.{Calls.step, Calls.Call.refresh, Calls.Call.stamp, Calls.Call.check}
use Rattle.demand_steps.specs.Typed.{Typed}
use Rattle.demand_steps.proofs.{Own.own, Testing.not_yes}
use Rattle.clauses.specs.{Keeping.SameStaged, Keeping.SameBatch, Ending.RefreshClauses, Ending.StampClauses, Ending.CheckClauses}
use Rattle.clauses.proofs.Splitting.{clash, nope, by, Decided, decides, only, denied, keeps, still_whole, on_step, settled}

module _ (r : Record) (m : Typed (standing r)) (w : whole r ≡ true) where
  module _ (n : ℕ) where
    refreshed : Decided r (λ c. refused c ≡ true) (answer (Done (One r.accepted)) (Ending.refreshed n r)) (refresh_bars r n) (step r (refresh n))
    unfolding own refresh_own
    refreshed = settled r (refresh n) (refresh_bars r n) w refl (λ e. refl, λ e₁. (λ e. refl, λ e₂. (λ e. refl, λ e₃. refl)))

    pub refresh-clauses : RefreshClauses r n (step r (refresh n))
    refresh-clauses = record {
      c224 = still_whole r m w (refresh n);
      c225 = keeps (SameBatch r) refreshed (search) (search);
      c226 = keeps (λ s. s.revision ≡ r.revision) refreshed refl refl;
      c227 = keeps (SameStaged r) refreshed (search) (search);
      c228 = decides refreshed refl (λ x. let f = fails (refresh_bars r n) x in
          (f Pending, eqb_ne _ _ (f Capacity), within n (f LongSnapshot))) (λ y. (y.0, (ne_eqb _ _ y.1, (not_over n y.2, refl))));
      c229 = only (λ t. t.state.accepted ≡ n) refreshed (λ x. refl);
      c230 = only (λ t. t.values ≡ r.accepted ∷ []) refreshed (λ x. refl);
      c231 = λ i. (denied refreshed refl i).0;
    }

  pub stamp_clauses : (domain : ℕ) → StampClauses r domain (step r (stamp domain))
  unfolding own
  stamp_clauses domain = on_step r m w (stamp domain) (StampClauses r domain)
      (by (StampClauses r domain) _ (λ e k. record {
        c115 = (λ i. never (ap refused i), λ x. clash _ e x);
        c116 = λ i. never (ap refused i);
        error = λ i. refl;
        kept = refl;
      }) (λ e k. record { c115 = (λ i. e, λ x. refl); c116 = λ i. refl; error = nope; kept = refl }))

  -- yes is 1 and no is 0
  no_yes : ◌≡◌ {A = List ℕ} (0 ∷ []) (1 ∷ []) → ⊥
  no_yes e = let z = ap (λ (l : List ℕ). get_or l 0 0) e in omega arith

  pub check_clauses : (domain : ℕ) (s : SaveStamp) → CheckClauses r domain s (step r (check domain s))
  unfolding own passes
  check_clauses domain s = on_step r m w (check domain s) (CheckClauses r domain s)
      (by (CheckClauses r domain s) _ (λ e k. let x = both e in let y = both x.0 in let z = both y.0 in record {
        passes_exactly = (λ i. (not-true _ z.0, eqb-true _ _ z.1, eqb-true _ _ y.1, eqb-true _ _ x.1), λ i. refl);
        answered = refl;
        kept = refl;
      }) (λ e k. record {
        passes_exactly = (λ i. absurd (no_yes i), λ x. clash _ (join (join (join (not_yes _ x.0) (eq-eqb _ _ x.1)) (eq-eqb _ _ x.2)) (eq-eqb _ _ x.3)) e);
        answered = refl;
        kept = refl;
      }))
