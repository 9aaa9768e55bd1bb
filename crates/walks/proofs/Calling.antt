-- Calls within a walk, of a callee of which no more is known than that it meets its contract. It says nothing of the crate.
--     Known            the callee's entry in the table of calls meets its contract
--     asks             what a callee asks of whoever passes plain data alone is had for nothing.        beside       and so is what it asks beside what it is lent
--     calls-plain      of such a callee, whose result is plain data: the caller goes on at the result's machine value, with all that it had
--     calls-lent       of a callee that is lent i beside plain data, whose result is plain data: the tokens come back
--     calls-said       of any callee: the caller gives up i, and has the tokens, the result, the last values and the `ensures`
-- Assumes `Logic`, and that the table of calls is monotone under a frame.
use mathlib.Core.Path.{◌≡◌, sym, ap, subst}
use mathlib.Core.List.{List, [], ◌∷◌}
use seplogic.Ra.Ura.{Ura}
use mir.Syntax.{Callee, Place, Opd as Operand, Body, seq, call}
use mir.Val.{Val}
use base.Logic.{SProp, ent, emp, sep, via, id⊢, comm∗, emp∗, mono∗, mono_l, mono_r}
use base.Fml.{Fml, fsep}
use prog.Wp.{Env, Calls, Loops, eval_opds}
use types.Logic.{Logic, sem}
use sound.WpLaws.{FmC}
use contract.Monad.{fact}
use types.Kit.{Item, ‵, raw, later, some, ◌⊛◌, mean, ⋆, push, Post, runs, lands, aim, Seq, ◌$◌, move, drop, use1, split, pick, await}
use types.Run.{Opds}
use denote.RattleType.{RattleType, Denots, Valss, owns}
use denote.Laws.{Is, Ises, Are, Makess, shows, owns_make}
use denote.Signature.{type_at, types_at}
use denote.Steps.{heard, facts, only}
use denote.Triple.Statement.{Contract, Triple}
use denote.Triple.Call.{calls_from}
use denote.Triple.Clauses.{Ended, Clauses, Lasts, at_exit, lasts, closing}
use denote.Triple.Entry.{alive}
use denote.Triple.Spec.{triple_of}
use Rattle.walks.proofs.Data.{Data}

module _ {M : Type 1} {𝓤 : Ura M} (𝓛 : Logic 𝓤) (T : Ended) (c : Clauses 𝓤 T) where
  open 𝓛 use {H}

  abbrev pub Promise : Contract 𝓤
  Promise = triple_of 𝓛 T.signature (closing 𝓛 T c)

  abbrev pub Known : Calls 𝓤 H → Callee → Type 1
  Known C f = Triple 𝓤 (C f) Promise

  -- what is passed and bound, y: the machine value v comes back, and with it the result r and the last values ws
  module _ (y : Promise.Ghost) where
    abbrev pub Tokens : SProp 𝓤
    Tokens = alive 𝓛 T.signature y.0.0 y.0.1

    abbrev pub Result : RattleType
    Result = type_at T.signature.result y.0.0

    abbrev pub Ensured : Result.Denot → Lasts T y.0.0 y.0.3 → SProp 𝓤
    Ensured r ws = (c y.0.0 y.0.3).ensures y.1 r (at_exit T y.0.0 y.0.3 ws)

    pub asks : ent 𝓤 (emp 𝓤) Tokens → Makess 𝓛 (types_at T.signature.params y.0.0) (Ises (types_at T.signature.params y.0.0))
        → Are (types_at T.signature.params y.0.0) (Ises (types_at T.signature.params y.0.0)) y.0.3 y.0.4
        → ent 𝓤 (emp 𝓤) ((c y.0.0 y.0.3).requires y.1) → ent 𝓤 (emp 𝓤) (Promise.pre y)
    asks tokens mk are required =
        via 𝓤 (sep 𝓤 (emp 𝓤) (emp 𝓤)) (emp∗ 𝓤 (emp 𝓤)) (mono∗ 𝓤
        (via 𝓤 (sep 𝓤 (emp 𝓤) (emp 𝓤)) (emp∗ 𝓤 (emp 𝓤)) (mono∗ 𝓤 tokens (owns_make 𝓛 (types_at T.signature.params y.0.0) (Ises (types_at T.signature.params y.0.0)) mk y.0.3 y.0.4 are)))
        required)

-- the tokens X, and what is lent, P, with plain data behind it, where the callee requires nothing
pub beside : {M : Type 1} {𝓤 : Ura M} (𝓛 : Logic 𝓤) (X : SProp 𝓤) (P : Fml) (Rs : List RattleType) → Makess 𝓛 Rs (Ises Rs) → (a : Denots Rs) (vss : Valss Rs) → Are Rs (Ises Rs) a vss
    → ent 𝓤 (sep 𝓤 X (sem 𝓛 P)) (sep 𝓤 (sep 𝓤 X (sem 𝓛 (fsep P (owns Rs a vss)))) (emp 𝓤))
beside {𝓤 = 𝓤} 𝓛 X P Rs mk a vss are =
    via 𝓤 (sep 𝓤 X (sem 𝓛 (fsep P (owns Rs a vss))))
    (mono_r 𝓤 X (via 𝓤 (sep 𝓤 (emp 𝓤) (sem 𝓛 P)) (emp∗ 𝓤 (sem 𝓛 P)) (via 𝓤 (sep 𝓤 (sem 𝓛 P) (emp 𝓤)) (comm∗ 𝓤 (emp 𝓤) (sem 𝓛 P)) (mono_r 𝓤 (sem 𝓛 P) (owns_make 𝓛 Rs (Ises Rs) mk a vss are)))))
    (via 𝓤 (sep 𝓤 (emp 𝓤) (sep 𝓤 X (sem 𝓛 (fsep P (owns Rs a vss))))) (emp∗ 𝓤 _) (comm∗ 𝓤 (emp 𝓤) (sep 𝓤 X (sem 𝓛 (fsep P (owns Rs a vss))))))

module _ {M : Type 1} {𝓤 : Ura M} {𝓛 : Logic 𝓤} {K : Type 0} {Γ : List (Item 𝓤)} {E : Env 𝓤 𝓛.H} {C : Calls 𝓤 𝓛.H} {Λ : Loops 𝓤 𝓛.H} {q : Post 𝓤 𝓛.H} {d : Place} {rest : Body} where
  -- the callee's `post`, taken apart
  open 𝓛 use {H}

  after : K → (T : Ended) (c : Clauses 𝓤 T) (y : (Promise 𝓛 T c).Ghost) (v : Val)
      → ((r : (Result 𝓛 T c y).Denot) (ws : Lasts T y.0.0 y.0.3) → Seq K 𝓛 (‵ ((Result 𝓛 T c y).own_val r (v ∷ [])) ∷ raw (Ensured 𝓛 T c y r ws) ∷ ‵ (lasts T y.0.0 y.0.3 ws) ∷ raw (Tokens 𝓛 T c y) ∷ Γ) (lands C Λ E d v rest q))
      → Seq K 𝓛 (raw ((Promise 𝓛 T c).post y v) ∷ Γ) (lands C Λ E d v rest q)
  after t T c y v k =
      use1 𝓛 (later (some (λ (r : (Result 𝓛 T c y).Denot). (raw (Tokens 𝓛 T c y) ⊛ ‵ ((Result 𝓛 T c y).own_val r (v ∷ []))) ⊛ some (λ (ws : Lasts T y.0.0 y.0.3). ‵ (lasts T y.0.0 y.0.3 ws) ⊛ raw (Ensured 𝓛 T c y r ws))))) (id⊢ 𝓤 _) $
      await t tt $ pick t (λ r. split t $ move t (1 ∷ []) $ pick t (λ ws. split t $ move t (2 ∷ []) $ split t $ move t (1 ∷ 3 ∷ 2 ∷ []) $ k r ws))

  -- the result is z, at its machine value
  lands_at : K → (T : Ended) (c : Clauses 𝓤 T) (y : (Promise 𝓛 T c).Ghost) (z : (Result 𝓛 T c y).Denot) → ((r : (Result 𝓛 T c y).Denot) (ws : Lasts T y.0.0 y.0.3) → ent 𝓤 (Ensured 𝓛 T c y r ws) (fact 𝓤 (r ≡ z)))
      → (D : Data (Result 𝓛 T c y)) → (Is (Result 𝓛 T c y) z (D.low z ∷ []) → Seq K 𝓛 (raw (Tokens 𝓛 T c y) ∷ Γ) (lands C Λ E d (D.low z) rest q))
      → (v : Val) → Seq K 𝓛 (raw ((Promise 𝓛 T c).post y v) ∷ Γ) (lands C Λ E d v rest q)
  lands_at t T c y z says D k v = after t T c y v (λ r ws. facts t (Result 𝓛 T c y) (Is (Result 𝓛 T c y)) (shows 𝓛 (Result 𝓛 T c y)) r (v ∷ []) (λ is.
      use1 𝓛 (raw (fact 𝓤 (r ≡ z))) (says r ws) $ heard t (r ≡ z) (λ e. drop t $ at_low (subst (λ x. Is (Result 𝓛 T c y) x (v ∷ [])) e is))))
    where
      at_low : Is (Result 𝓛 T c y) z (v ∷ []) → Seq K 𝓛 (raw (Tokens 𝓛 T c y) ∷ Γ) (lands C Λ E d v rest q)
      at_low is = subst (λ (w : Val). Is (Result 𝓛 T c y) z (w ∷ []) → Seq K 𝓛 (raw (Tokens 𝓛 T c y) ∷ Γ) (lands C Λ E d w rest q)) (sym (ap only (D.tells z (v ∷ []) is))) k is

  module _ {f : Callee} {xs : List Operand} where
    pub calls-said : K → FmC 𝓤 H 𝓛.laws C → (T : Ended) (c : Clauses 𝓤 T) → Known 𝓛 T c C f → (y : (Promise 𝓛 T c).Ghost) (i : Item 𝓤) → ent 𝓤 (mean 𝓛 i) ((Promise 𝓛 T c).pre y)
        → Opds K 𝓛 (i ∷ Γ) E xs ((Promise 𝓛 T c).args y)
        → ((v : Val) (r : (Result 𝓛 T c y).Denot) (ws : Lasts T y.0.0 y.0.3) → Seq K 𝓛 (‵ ((Result 𝓛 T c y).own_val r (v ∷ [])) ∷ raw (Ensured 𝓛 T c y r ws) ∷ ‵ (lasts T y.0.0 y.0.3 ws) ∷ raw (Tokens 𝓛 T c y) ∷ Γ) (lands C Λ E d v rest q))
        → Seq K 𝓛 (i ∷ Γ) (runs C Λ E (seq (call f xs d) rest) q)
    calls-said t fm T c met y i gives os k = calls_from t fm i ((Promise 𝓛 T c).args y) ((Promise 𝓛 T c).post y) (via 𝓤 ((Promise 𝓛 T c).pre y) gives (met y)) os (λ v. after t T c y v (k v))

    pub calls-lent : K → FmC 𝓤 H 𝓛.laws C → (T : Ended) (c : Clauses 𝓤 T) → Known 𝓛 T c C f → (y : (Promise 𝓛 T c).Ghost) (i : Item 𝓤) → ent 𝓤 (mean 𝓛 i) ((Promise 𝓛 T c).pre y)
        → (z : (Result 𝓛 T c y).Denot) → ((r : (Result 𝓛 T c y).Denot) (ws : Lasts T y.0.0 y.0.3) → ent 𝓤 (Ensured 𝓛 T c y r ws) (fact 𝓤 (r ≡ z)))
        → (D : Data (Result 𝓛 T c y)) → Opds K 𝓛 (i ∷ Γ) E xs ((Promise 𝓛 T c).args y)
        → (Is (Result 𝓛 T c y) z (D.low z ∷ []) → Seq K 𝓛 (raw (Tokens 𝓛 T c y) ∷ Γ) (lands C Λ E d (D.low z) rest q)) → Seq K 𝓛 (i ∷ Γ) (runs C Λ E (seq (call f xs d) rest) q)
    calls-lent t fm T c met y i gives z says D os k = calls_from t fm i ((Promise 𝓛 T c).args y) ((Promise 𝓛 T c).post y) (via 𝓤 ((Promise 𝓛 T c).pre y) gives (met y)) os (lands_at t T c y z says D k)

    pub calls-plain : K → FmC 𝓤 H 𝓛.laws C → (T : Ended) (c : Clauses 𝓤 T) → Known 𝓛 T c C f → (y : (Promise 𝓛 T c).Ghost) → ent 𝓤 (emp 𝓤) ((Promise 𝓛 T c).pre y)
        → (z : (Result 𝓛 T c y).Denot) → ((r : (Result 𝓛 T c y).Denot) (ws : Lasts T y.0.0 y.0.3) → ent 𝓤 (Ensured 𝓛 T c y r ws) (fact 𝓤 (r ≡ z)))
        → (D : Data (Result 𝓛 T c y)) → Opds K 𝓛 Γ E xs ((Promise 𝓛 T c).args y)
        → (Is (Result 𝓛 T c y) z (D.low z ∷ []) → Seq K 𝓛 Γ (lands C Λ E d (D.low z) rest q)) → Seq K 𝓛 Γ (runs C Λ E (seq (call f xs d) rest) q)
    calls-plain t fm T c met y gives z says D os k = record {
      prf =
          via 𝓤 (eval_opds 𝓤 H E xs (λ us. C f us (λ v. aim 𝓤 H (lands C Λ E d v rest q))))
          (os.go (λ us. C f us (λ v. aim 𝓤 H (lands C Λ E d v rest q)))
          (via 𝓤 (sep 𝓤 (C f ((Promise 𝓛 T c).args y) ((Promise 𝓛 T c).post y)) (⋆ 𝓛 Γ))
          (via 𝓤 (sep 𝓤 (emp 𝓤) (⋆ 𝓛 Γ)) (emp∗ 𝓤 (⋆ 𝓛 Γ)) (mono_l 𝓤 (⋆ 𝓛 Γ) (via 𝓤 ((Promise 𝓛 T c).pre y) gives (met y))))
          (fm f ((Promise 𝓛 T c).args y) ((Promise 𝓛 T c).post y) (λ v. aim 𝓤 H (lands C Λ E d v rest q)) (⋆ 𝓛 Γ)
          (λ v. via 𝓤 (⋆ 𝓛 (raw ((Promise 𝓛 T c).post y v) ∷ Γ)) (push 𝓛 (raw ((Promise 𝓛 T c).post y v)) Γ) (lands_at t T c y z says D (λ is. drop t $ k is) v).prf))))
          (𝓛.laws.⇛_intro _);
    }
