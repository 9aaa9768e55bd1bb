-- The order is kept: whatever calls are made on a sound table, refused or not, it stays sound, so that no call on it ever answers 6, and
-- 7 only of a record that is not whole. Assumes nothing.
use Prim.Native.Nat.{ℕ, ◌+◌, ◌-◌}
use mathlib.Core.Path.{◌≡◌, refl, sym, ◌∙◌}
use mathlib.Core.Bool.{Bool, true, false, not}
use mathlib.Core.List.{List, [], ◌∷◌, ◌++◌}
use mathlib.Core.Logic.{◌≢◌}
use native.Mathlib.Omega.{arith}
use Rattle.choice.specs.Pick.{◌or◌}
use Rattle.choice.proofs.Picks.{picked}
use Rattle.choice.proofs.Tests.{never}
use Rattle.std.specs.Prelude.{Ok, Err}
use Rattle.bars.specs.Bars.{Bar, verdict}
use Rattle.tail_answers.specs.TailAnswers.{Verdict, says_verdict}
use Rattle.tail_answers.specs.declared.TailRefusal.{TailRefusal}
use Rattle.tail_answers.specs.declared.TailRefusal.TheVariants.{Full, Present, Backward, Absent, Unstamped}
use Rattle.tail_answers.specs.declared.Finding.{Finding}
use Rattle.tail_table.specs.Table.{used_of, file_of, entered, without, moved_to, over_first, zeroes}
use Rattle.tail_table.specs.TailCalls.{settled, on_stamp, found, looked_up, add_row, remove_row, move_row}
use Rattle.tail_laws.specs.TailChains.{TailTable, TailCall, verdict_of, after, after_all, answers, WholeFor, Sound}
use Rattle.tail_laws.specs.TailChains.TailCall.{finding, adding, removing, moving}
use Rattle.tail_laws.proofs.Tables.{either_way}
use Rattle.tail_laws.proofs.Calls.{add_leaves, remove_leaves, move_leaves}

pub order_kept : (c : TailCall) (s : TailTable) → Sound s → Sound (after c s)
order_kept (finding f size c) s o = o
order_kept (adding t) s o = either_way Sound (verdict (add_row s.words s.used t)) s.words s.used (over_first (entered t (used_of s.words s.used)) s.words) (s.used + 1) o (λ h. (add_leaves s.words s.used o t h).table)
order_kept (removing f) s o = either_way Sound (verdict (remove_row s.words s.used f)) s.words s.used (over_first (without f (used_of s.words s.used) ++ zeroes ∷ []) s.words) (s.used - 1) o (λ h. (remove_leaves s.words s.used o f h).table)
order_kept (moving t c) s o = either_way Sound (verdict (move_row s.words s.used t c)) s.words s.used (over_first (moved_to t.offset (file_of t) (used_of s.words s.used)) s.words) s.used o (λ h. (move_leaves s.words s.used o t c h).table)

pub order_kept_always : (cs : List TailCall) (s : TailTable) → Sound s → Sound (after_all cs s)
order_kept_always [] s o = o
order_kept_always (c ∷ cs) s o = order_kept_always cs (after c s) (order_kept c s o)

-- neither 6 nor 7
abbrev pub Fair : Verdict → Type 0
Fair v = ((says_verdict v).number ≢ 6) × ((says_verdict v).number ≢ 7)

answered : (v : Verdict) (words : List ℕ) (used : ℕ) (words' : List ℕ) (used' : ℕ) → Fair v → Fair (settled v used words used' words').answer
answered (Ok u) words used words' used' h = h
answered (Err why) words used words' used' h = h

done : Fair (Ok tt)
done = (omega arith, omega arith)

full : Fair (Err Full)
full = (omega arith, omega arith)

present : Fair (Err Present)
present = (omega arith, omega arith)

backward : Fair (Err Backward)
backward = (omega arith, omega arith)

absent : Fair (Err Absent)
absent = (omega arith, omega arith)

unstamped : Fair (Err Unstamped)
unstamped = (omega arith, omega arith)

-- a row is fair where each refusal is that can be given
abbrev Fairly : List (Bar TailRefusal) → Type 0
Fairly [] = true ≡ true
Fairly (b ∷ bs) = (b.test ≡ true → Fair (Err b.why)) × Fairly bs

fairly : (bs : List (Bar TailRefusal)) → Fairly bs → Fair (verdict bs)
fairly [] h = done
fairly (b ∷ bs) h = picked Fair b.test h.0 (λ e. fairly bs h.1)

whole_too : {u w : Bool} → u ≡ false → w ≡ true → u or not w ≡ false
unfolding ◌or◌
whole_too p q = simp (p, q)

looked : (v : Verdict) (x : Finding) → Fair v → Fair (verdict_of (found v x))
looked (Ok u) x h = done
looked (Err why) x h = h

fair : (c : TailCall) (s : TailTable) → Sound s → WholeFor c → Fair (answers c s)
fair (finding f size c) s o w =
    looked (verdict (on_stamp s.words s.used c [])) (looked_up (used_of s.words s.used) f size)
    (fairly (on_stamp s.words s.used c []) ((λ e. never (sym e ∙ o.0)), ((λ e. never (sym e ∙ whole_too o.1 w)), ((λ e. unstamped), refl))))
fair (adding t) s o w =
    answered (verdict (add_row s.words s.used t)) s.words s.used _ _
    (fairly (add_row s.words s.used t) ((λ e. never (sym e ∙ o.0)), ((λ e. never (sym e ∙ o.1)), ((λ e. present), ((λ e. full), refl)))))
fair (removing f) s o w =
    answered (verdict (remove_row s.words s.used f)) s.words s.used _ _
    (fairly (remove_row s.words s.used f) ((λ e. never (sym e ∙ o.0)), ((λ e. never (sym e ∙ o.1)), ((λ e. absent), refl))))
fair (moving t c) s o w =
    answered (verdict (move_row s.words s.used t c)) s.words s.used _ _
    (fairly (move_row s.words s.used t c)
    ((λ e. never (sym e ∙ o.0)), ((λ e. never (sym e ∙ whole_too o.1 w)), ((λ e. unstamped), ((λ e. absent), ((λ e. backward), refl))))))

pub never_damaged : (cs : List TailCall) (s : TailTable) → Sound s → (c : TailCall) → WholeFor c → Fair (answers c (after_all cs s))
never_damaged cs s o c w = fair c (after_all cs s) (order_kept_always cs s o) w
