-- `tails::remove` meets its contract. Assumes nothing.
use Rattle.std.proofs.Common.{◌≡◌, ℕ, ◌-◌, Result, Err, [], ◌∷◌, ◌++◌, refl, ◌∙◌, ap, arith, rules}
use Rattle.bars.specs.Bars.{verdict}
use Rattle.tail_answers.specs.declared.TailRefusal.{TailRefusal}
use Rattle.tail_table.specs.Table.{used_of, without, over_first, zeroes}
use Rattle.tail_table.specs.TailCalls.{counted, remove_row}
use Rattle.tail_sweeps.proofs.Deciding.{place_so}
use Rattle.tails.proofs.Settling.{refused_so, done_so}
use Rattle.tails.proofs.Removing.{removing, removed, in_use, removed_so}
use Rattle.tails.proofs.remove.Goals as goal

pub returns-in_err-remove_by : goal.returns-in_err-remove_by
returns-in_err-remove_by c =
    let a = c.args in
    let e = removing a.words.now a.used a.file c.of_words.ensures c.sweep-s.ensures c.remove_by.ensures in
    let r : c.from_residual.result ≡ Err c.in_err-remove_by.field-0.0 = search rules in
    ap (λ (x : Result ℕ TailRefusal). counted x a.used a.words.now) r
    ∙ refused_so (verdict (remove_row a.words.now a.used a.file)) _ a.used a.words.now (a.used - 1) (over_first (without a.file (used_of a.words.now a.used) ++ zeroes ∷ []) a.words.now) e c.in_err-remove_by.was

pub take_out-requires : goal.take_out-requires
take_out-requires c =
    let a = c.args in
    let m = removed a.words.now a.used a.file c.of_words.ensures c.sweep-s.ensures c.remove_by.ensures c.in_ok-remove_by.was in
    (m.table.threes, (m.table.within, in_use a.words.now a.used a.file _ m (place_so m.table refl c.sweep-s.ensures m.there)))

pub overflow_sub-result : goal.overflow_sub-result
overflow_sub-result c =
    let a = c.args in
    let m = removed a.words.now a.used a.file c.of_words.ensures c.sweep-s.ensures c.remove_by.ensures c.in_ok-remove_by.was in
    let u = in_use a.words.now a.used a.file _ m (place_so m.table refl c.sweep-s.ensures m.there) in
    omega (arith, u)

pub returns : goal.returns
returns c =
    let a = c.args in
    let e = removing a.words.now a.used a.file c.of_words.ensures c.sweep-s.ensures c.remove_by.ensures in
    let d = c.in_ok-remove_by.was in
    let m = removed a.words.now a.used a.file c.of_words.ensures c.sweep-s.ensures c.remove_by.ensures d in
    done_so (verdict (remove_row a.words.now a.used a.file)) a.used a.words.now (a.used - 1) (over_first (without a.file (used_of a.words.now a.used) ++ zeroes ∷ []) a.words.now) e d
    (removed_so a.words.now a.used a.file _ m (place_so m.table refl c.sweep-s.ensures m.there) c.take_out.ensures)
