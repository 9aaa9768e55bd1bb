-- What an audit tells where the first finding is known. Assumes nothing.
use Prim.Native.Nat.{ℕ}
use mathlib.Core.Path.{◌≡◌, sym, ap, ◌∙◌}
use mathlib.Core.List.{List}
use Rattle.record.specs.declared.Opening.{Opening}
use Rattle.plain.specs.declared.Question.{Question}
use Rattle.plain.specs.declared.Question.TheVariants.{Phase, CommitAllowed, RecoveryAllowed, DueAsking, Revision}
use Rattle.plain.specs.Looking.{Finding, asked}
use Rattle.audit_lines.specs.declared.Answers.{Answers}
use Rattle.audit_lines.specs.Audits.{number_of, answers_after, audited_by, audited}

module _ (given : Opening) (l : List ℕ) (n : ℕ) where
  -- the number of what is found of a question
  pub number : (q : Question) {found is : Finding} → found ≡ asked q given l n → found ≡ is → number_of is ≡ number_of (asked q given l n)
  number q e h = ap number_of (sym h ∙ e)

  -- what is told, by what is found of the first question
  pub tells : {found is : Finding} → found ≡ asked Phase given l n → found ≡ is → audited_by is (answers_after given l n) ≡ audited given l n
  unfolding audited
  tells e h = ap (λ (f : Finding). audited_by f (answers_after given l n)) (sym h ∙ e)

  -- the answers, one by one
  pub answers : {phase commit recovery due revision : ℕ} → phase ≡ number_of (asked Phase given l n)
      → commit ≡ number_of (asked CommitAllowed given l n) → recovery ≡ number_of (asked RecoveryAllowed given l n)
      → due ≡ number_of (asked DueAsking given l n) → revision ≡ number_of (asked Revision given l n)
      → ◌≡◌ {A = Answers}
      (record { phase = phase; commit = commit; recovery = recovery; due = due; revision = revision })
      (answers_after given l n)
  answers p c r d v = simp (p, c, r, d, v)
