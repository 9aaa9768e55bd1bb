-- A call that is done leaves a sound table, and these used records. Assumes nothing.
use Prim.Native.Nat.{ℕ, ◌+◌, ◌-◌}
use mathlib.Core.Path.{◌≡◌, refl, ◌∙◌, ap, subst}
use mathlib.Core.List.{List, [], ◌∷◌, ◌++◌}
use native.Mathlib.Omega.{arith}
use lib.ListN.{length, length-append}
use lib.Seq.{take_all, take_at}
use borrow.Author.Tests.{leb-false, not-false}
use Rattle.std.specs.Prelude.{Ok}
use Rattle.bars.specs.Bars.{verdict}
use Rattle.bars.proofs.Verdicts.{clear}
use Rattle.tail_table.specs.Table.{tails_of, file_of, used_of, ascending, entered, without, moved_to, over_first, zeroes}
use Rattle.tail_table.specs.TailCalls.{add_row, remove_row, move_row}
use Rattle.tail_table.specs.Sweeping.{place_of}
use Rattle.tail_table.specs.declared.Tail.{Tail}
use Rattle.tail_table.specs.declared.File.{File}
use Rattle.tail_table.specs.declared.Claim.{Claim}
use Rattle.tail_sweeps.proofs.Deciding.{Sound as Ready, sound, used_long}
use Rattle.tail_sweeps.proofs.Placing.{place_inside, entered_long, cut_long, without_there, moved-long}
use Rattle.tail_laws.specs.TailChains.{Sound}
use Rattle.tail_laws.proofs.Records.{entered_order, without_order, moved_order}
use Rattle.tail_laws.proofs.Tables.{table_of, Leaves, leaves}

-- where the records in use are us
first : {words : List ℕ} {n : ℕ} {xs us : List Tail} → xs ≡ us → Leaves words n xs → Leaves words n us
first {words} {n} e v = subst (Leaves words n) e v

module _ (words : List ℕ) (used : ℕ) (o : Sound (table_of words used)) where
  abbrev us : List Tail
  us = used_of words used

  ready : Ready words used
  ready = sound words used o.0 o.1

  pub as_it_is : Leaves words used us
  as_it_is = record { table = o; holds = refl }

  pub add_leaves : (t : Tail) → verdict (add_row words used t) ≡ Ok tt → Leaves (over_first (entered t us) words) (used + 1) (entered t us)
  add_leaves t h =
      let k = clear (add_row words used t) h in
      let r = leb-false (length (tails_of words)) used k.1.1.1.0 in
      let n = entered_long t us in
      let m = used_long ready in
      let e = take_all (used + 1) (entered t us) (omega (arith, n, m)) in
      first e (leaves words used o (entered t us) (omega (arith, n, m, r)) (used + 1) (omega (arith, n, m)) (ap ascending e ∙ entered_order t us ready.order k.1.1.0))

  pub remove_leaves : (f : File) → verdict (remove_row words used f) ≡ Ok tt → Leaves (over_first (without f us ++ zeroes ∷ []) words) (used - 1) (without f us)
  remove_leaves f h =
      let k = clear (remove_row words used f) h in
      let there = not-false _ k.1.1.0 in
      let c = cut_long us (place_of us f) (place_inside f us ready.order there) in
      let s = ap length (without_there f us ready.order there) in
      let m = used_long ready in
      let w = ready.within in
      let n = length-append (without f us) (zeroes ∷ []) in
      let e = take_at (without f us) (zeroes ∷ []) (used - 1) (omega (arith, c, s, m)) in
      first e (leaves words used o (without f us ++ zeroes ∷ []) (omega (arith, c, s, m, n, w)) (used - 1) (omega (arith, c, s, m, n)) (ap ascending e ∙ without_order f us ready.order))

  pub move_leaves : (t : Tail) (c : Claim) → verdict (move_row words used t c) ≡ Ok tt → Leaves (over_first (moved_to t.offset (file_of t) us) words) used (moved_to t.offset (file_of t) us)
  move_leaves t c h =
      let n = moved-long (file_of t) t.offset us in
      let m = used_long ready in
      let w = ready.within in
      let e = take_all used (moved_to t.offset (file_of t) us) (omega (arith, n, m)) in
      first e (leaves words used o (moved_to t.offset (file_of t) us) (omega (arith, n, m, w)) used (omega (arith, n, m)) (ap ascending e ∙ moved_order t.offset (file_of t) us ready.order))
