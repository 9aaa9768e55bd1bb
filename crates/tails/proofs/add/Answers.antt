-- `tails::add` meets its contract. Assumes nothing.
use Rattle.std.proofs.Common.{◌≡◌, ℕ, ◌+◌, Result, Err, ◌∙◌, ap, arith, rules}
use Rattle.bars.specs.Bars.{verdict}
use Rattle.tail_answers.specs.declared.TailRefusal.{TailRefusal}
use Rattle.tail_table.specs.Table.{used_of, entered, over_first}
use Rattle.tail_table.specs.TailCalls.{counted, add_row}
use Rattle.tail_sweeps.proofs.Words.{records}
use Rattle.tails.proofs.Settling.{refused_so, done_so}
use Rattle.tails.proofs.Adding.{adding, added}
use Rattle.tails.proofs.add.Goals as goal

pub returns-in_err-add_by : goal.returns-in_err-add_by
returns-in_err-add_by c =
    let a = c.args in
    let e = adding a.words.now a.used a.tail c.of_words.ensures c.file.ensures c.sweep-s.ensures c.add_by.ensures in
    let r : c.from_residual.result ≡ Err c.in_err-add_by.field-0.0 = search rules in
    ap (λ (x : Result ℕ TailRefusal). counted x a.used a.words.now) r
    ∙ refused_so (verdict (add_row a.words.now a.used a.tail)) _ a.used a.words.now (a.used + 1) (over_first (entered a.tail (used_of a.words.now a.used)) a.words.now) e c.in_err-add_by.was

pub put_in-requires : goal.put_in-requires
put_in-requires c =
    let a = c.args in
    let m = added a.words.now a.used a.tail c.of_words.ensures c.file.ensures c.sweep-s.ensures c.add_by.ensures c.in_ok-add_by.was in
    (m.table.threes, m.spare)

pub overflow_add-result : goal.overflow_add-result
overflow_add-result c =
    let a = c.args in
    let m = added a.words.now a.used a.tail c.of_words.ensures c.file.ensures c.sweep-s.ensures c.add_by.ensures c.in_ok-add_by.was in
    let r = records a.words.now in
    omega (arith, m.spare, m.table.most, r)

pub returns : goal.returns
returns c =
    let a = c.args in
    let e = adding a.words.now a.used a.tail c.of_words.ensures c.file.ensures c.sweep-s.ensures c.add_by.ensures in
    done_so (verdict (add_row a.words.now a.used a.tail)) a.used a.words.now (a.used + 1) (over_first (entered a.tail (used_of a.words.now a.used)) a.words.now) e c.in_ok-add_by.was c.put_in.ensures
