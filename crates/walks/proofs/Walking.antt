-- What a walk begins and ends with. It says nothing of the crate.
--     dropped          of each parameter nothing is had at exit.        all_go       it is a law, where nothing is said of any of them at exit
--     shown            a function meets its contract, from a walk of its MIR with the parameters' machine values written out
--     had              what plain data owns is had for nothing
--     ends-plain       such a walk ends at a result r that is plain data, where of each parameter nothing is had, with the tokens in hand
--     gone, gone-empty     a local is freed, with whatever it holds, or where it holds nothing: its cell stands at n, and that it dies behind it
-- Assumes `Logic`.
use mathlib.Core.Path.{◌≡◌, subst}
use Prim.Native.Nat.{ℕ, zero}
use mathlib.Core.List.{List, [], ◌∷◌}
use seplogic.Ra.Ura.{Ura}
use base.Fraction.{full_share}
use mir.Syntax.{Ty, Fn}
use mir.Val.{Val}
use base.Logic.{ent, sep, emp, id⊢, emp∗, via, mono_r, mono∗}
use base.Fml.{fat, froom, fdies}
use prog.Wp.{Env, Tables, WpFn}
use types.Logic.{Logic, sem}
use sound.WpLaws.{WpFn-mono}
use contract.Lifetimes.{Lfts, Shares, AllOutlive}
use types.Kit.{Item, ‵, raw, mean, ⋆, nth, del, pull, push, Goal, frees, prop, Seq, Step, step, ◌$◌, move, use0, join, suffices, done}
use types.Run.{free1}
use denote.RattleType.{RattleType, Denots, Valss, flat}
use denote.Laws.{Is, Ises, Are, Spells, Tellss, valss}
use denote.Signature.{Slot, types_at}
use denote.Steps.{owned}
use denote.Triple.Clauses.{Ended, Clauses, Lasts, closing}
use denote.Triple.End.{Kepts, Fins}
use denote.Triple.Entry.{Args, on_entry}
use denote.Triple.Spec.{Meets}
use denote.Triple.Walked.{Stays, stay_dropped, has_of, fits_of, Silent, AllGo, Goes-dropped, walk_of, ends_at, walked, walk_Meets}
use Rattle.walks.proofs.Calling.{Promise, Tokens, Result, Ensured}
use Rattle.walks.proofs.Data.{Data}

module _ {n : ℕ} where
  abbrev pub dropped : (ss : List (Slot n)) (ks : Kepts ss) → Stays ss ks
  dropped [] ks = tt
  dropped (s ∷ ss) ks = (stay_dropped s ks.0, dropped ss ks.1)

  module _ (κs : Lfts n) where
    all_fit : (ss : List (Slot n)) (ks : Kepts ss) (a : Denots (types_at ss κs)) (ws : Fins κs ss ks a) → fits_of κs ss ks (dropped ss ks) a ws
    all_fit [] ks a ws = tt
    all_fit (s ∷ ss) ks a ws = (tt, all_fit ss ks.1 a.1 ws.1)

    pub all-had : {M : Type 1} {𝓤 : Ura M} (𝓛 : Logic 𝓤) (ss : List (Slot n)) (ks : Kepts ss) (a : Denots (types_at ss κs)) (ws : Fins κs ss ks a) (vss : Valss (types_at ss κs))
        → ent 𝓤 (emp 𝓤) (sem 𝓛 (has_of κs ss ks (dropped ss ks) a ws vss))
    all-had {𝓤 = 𝓤} 𝓛 [] ks a ws vss = id⊢ 𝓤 (emp 𝓤)
    all-had {𝓤 = 𝓤} 𝓛 (s ∷ ss) ks a ws vss = via 𝓤 (sep 𝓤 (emp 𝓤) (emp 𝓤)) (emp∗ 𝓤 (emp 𝓤)) (mono_r 𝓤 (emp 𝓤) (all-had 𝓛 ss ks.1 a.1 ws.1 vss.1))

  module _ {M : Type 1} {𝓤 : Ura M} (𝓛 : Logic 𝓤) where
    abbrev pub Silents : (ss : List (Slot n)) → Kepts ss → Type 1
    Silents [] ks = Unit {1}
    Silents (s ∷ ss) ks = Silent 𝓛 n s ks.0 × Silents ss ks.1

    pub all_go : (ss : List (Slot n)) (ks : Kepts ss) → Silents ss ks → AllGo 𝓛 n ss ks (dropped ss ks)
    all_go [] ks qs = tt
    all_go (s ∷ ss) ks qs = (Goes-dropped 𝓛 n s ks.0 qs.0, all_go ss ks.1 qs.1)

module _ {M : Type 1} {𝓤 : Ura M} (𝓛 : Logic 𝓤) (T : Ended) (c : Clauses 𝓤 T) where
  open 𝓛 use {H}

  pub shown : (hs : Stays T.signature.params T.kept) → AllGo 𝓛 T.signature.lifetimes T.signature.params T.kept hs → (𝓣 : Tables 𝓤 H) (e : Fn)
      → (sp : (κs : Lfts T.signature.lifetimes) → Spells (types_at T.signature.params κs)) → ((κs : Lfts T.signature.lifetimes) → Tellss (types_at T.signature.params κs) (Ises (types_at T.signature.params κs)) (sp κs))
      → ((κs : Lfts T.signature.lifetimes) (qs : Shares T.signature.lifetimes) (bounds : AllOutlive T.signature.lifetimes T.signature.outlives κs) (a : Args T.signature κs) (g : (c κs a).ghost)
      → Are (types_at T.signature.params κs) (Ises (types_at T.signature.params κs)) a (valss (types_at T.signature.params κs) (sp κs) a)
      → ent 𝓤 (sep 𝓤 (on_entry 𝓛 T.signature κs qs a (valss (types_at T.signature.params κs) (sp κs) a)) ((c κs a).requires g))
      (WpFn 𝓤 H 𝓣.C 𝓣.Λ e (flat (types_at T.signature.params κs) (valss (types_at T.signature.params κs) (sp κs) a)) ((walk_of 𝓛 T hs c).post ((κs, qs, bounds, a, valss (types_at T.signature.params κs) (sp κs) a), g))))
      → Meets 𝓛 T.signature (WpFn 𝓤 H 𝓣.C 𝓣.Λ e) (closing 𝓛 T c)
  shown hs gs 𝓣 e sp tl walk = walk_Meets 𝓛 T hs gs c (WpFn 𝓤 H 𝓣.C 𝓣.Λ e) (WpFn-mono 𝓤 H 𝓛.laws 𝓣 e) (walked 𝓛 T hs c (WpFn 𝓤 H 𝓣.C 𝓣.Λ e) sp tl walk)

module _ {M : Type 1} {𝓤 : Ura M} {𝓛 : Logic 𝓤} {K : Type 0} where
  open 𝓛 use {H}

  module _ {Γ : List (Item 𝓤)} where
    pub had : K → {G : Goal 𝓤 H} {R : RattleType} (D : Data R) (x : R.Denot) → Is R x (D.low x ∷ []) → Step K 𝓛 (‵ (R.own_val x (D.low x ∷ [])) ∷ Γ) G Γ G
    had t {R = R} D x is = owned t R (Is R) (D.makes 𝓛) x (D.low x ∷ []) is

    lets_go : K → (n : ℕ) {τ : Ty} {b : ℕ} (i : Item 𝓤) {E : Env 𝓤 H} {g : Goal 𝓤 H} → ent 𝓤 (mean 𝓛 i) (H.room τ b zero) → nth 𝓛 n Γ ≡ i → nth 𝓛 n (del 𝓛 n Γ) ≡ ‵ (fdies τ b)
        → Step K 𝓛 (del 𝓛 n (del 𝓛 n Γ)) (frees E g) Γ (frees ((τ, b) ∷ E) g)
    lets_go t n {τ} {b} i {E} {g} room is dies = step (λ s. record {
      prf =
          via 𝓤 (sep 𝓤 (mean 𝓛 i) (⋆ 𝓛 (del 𝓛 n Γ)))
          (subst (λ (j : Item 𝓤). ent 𝓤 (⋆ 𝓛 Γ) (sep 𝓤 (mean 𝓛 j) (⋆ 𝓛 (del 𝓛 n Γ)))) is (pull 𝓛 n Γ))
          (via 𝓤 (sep 𝓤 (H.room τ b zero) (sep 𝓤 (H.dies τ b) (⋆ 𝓛 (del 𝓛 n (del 𝓛 n Γ)))))
          (mono∗ 𝓤 room (subst (λ (j : Item 𝓤). ent 𝓤 (⋆ 𝓛 (del 𝓛 n Γ)) (sep 𝓤 (mean 𝓛 j) (⋆ 𝓛 (del 𝓛 n (del 𝓛 n Γ))))) dies (pull 𝓛 n (del 𝓛 n Γ))))
          (via 𝓤 (⋆ 𝓛 (‵ (froom τ b zero) ∷ ‵ (fdies τ b) ∷ del 𝓛 n (del 𝓛 n Γ))) (mono_r 𝓤 (H.room τ b zero) (push 𝓛 (‵ (fdies τ b)) (del 𝓛 n (del 𝓛 n Γ)))) (free1 t $ s).prf));
    })

    pub gone : K → (n : ℕ) {τ : Ty} {b : ℕ} {v : Val} {E : Env 𝓤 H} {g : Goal 𝓤 H} → nth 𝓛 n Γ ≡ ‵ (fat full_share τ b zero v) → nth 𝓛 n (del 𝓛 n Γ) ≡ ‵ (fdies τ b)
        → Step K 𝓛 (del 𝓛 n (del 𝓛 n Γ)) (frees E g) Γ (frees ((τ, b) ∷ E) g)
    gone t n {τ} {b} {v} = lets_go t n (‵ (fat full_share τ b zero v)) (𝓛.laws.at_room τ b zero v)

    pub gone-empty : K → (n : ℕ) {τ : Ty} {b : ℕ} {E : Env 𝓤 H} {g : Goal 𝓤 H} → nth 𝓛 n Γ ≡ ‵ (froom τ b zero) → nth 𝓛 n (del 𝓛 n Γ) ≡ ‵ (fdies τ b)
        → Step K 𝓛 (del 𝓛 n (del 𝓛 n Γ)) (frees E g) Γ (frees ((τ, b) ∷ E) g)
    gone-empty t n {τ} {b} = lets_go t n (‵ (froom τ b zero)) (id⊢ 𝓤 (H.room τ b zero))

  pub ends_plain : K → (T : Ended) (c : Clauses 𝓤 T) (y : (Promise 𝓛 T c).Ghost) (D : Data (Result 𝓛 T c y)) (r : (Result 𝓛 T c y).Denot) (ws : Lasts T y.0.0 y.0.3) → Is (Result 𝓛 T c y) r (D.low r ∷ [])
      → ent 𝓤 (emp 𝓤) (Ensured 𝓛 T c y r ws) → Seq K 𝓛 (raw (Tokens 𝓛 T c y) ∷ []) (prop ((walk_of 𝓛 T (dropped T.signature.params T.kept) c).post y (D.low r)))
  ends_plain t T c y D r ws is ensured =
      suffices t _ (ends_at 𝓛 T (dropped T.signature.params T.kept) c y (D.low r) r ws (all_fit y.0.0 T.signature.params T.kept y.0.3 ws)) $
      use0 𝓛 (raw (Ensured 𝓛 T c y r ws)) ensured $ had t D r is $
      use0 𝓛 (‵ (has_of y.0.0 T.signature.params T.kept (dropped T.signature.params T.kept) y.0.3 ws y.0.4)) (all-had y.0.0 𝓛 T.signature.params T.kept y.0.3 ws y.0.4) $
      join t $ move t (2 ∷ 0 ∷ []) $ join t $ done t
