-- `digests::digest_all` meets its contract: from the elements that are left the digest stays what it is of all. Assumes nothing.
use Rattle.std.proofs.Common.{sym, ◌∙◌, arith}
use Rattle.std.proofs.lemmas.List.{at_drop_more, at_drop_all}
use Rattle.digests.specs.Digesting.{digest_from}
use Rattle.digests.proofs.digest_all.Goals as goal

pub loop-element-preserved : goal.loop-element-preserved
unfolding digest_from
loop-element-preserved g c =
    let l = c.loop-element in
    let item = c.element-item in
    let turn = at_drop_more (digest_from g.T.Element.value l.h) c.args.elements.now l.element-index item.result c.loop-element-test.true in
    (omega (arith, c.digested-h.ensures), rw (c.digested-h.ensures, item.is) (sym turn ∙ l.invariant.1))

pub returns : goal.returns
unfolding digest_from
returns g c =
    sym (at_drop_all (digest_from g.T.Element.value c.loop-element.h) _ _ c.loop-element-test.false) ∙ c.loop-element.invariant.1
