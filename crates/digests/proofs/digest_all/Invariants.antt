-- `digests::digest_all` meets its contract: from the elements that are left the digest stays what it is of all. Assumes nothing.
use Rattle.std.proofs.Common.{◌≡◌, ◌<◌, drop}
use Rattle.digests.specs.Digesting.{modulus, digest_from, digest_by}
use Rattle.digests.proofs.digest_all.Given as goal

abbrev pub invariant-loop-element : goal.invariant-loop-element
invariant-loop-element g l =
    (l.h < modulus) × (digest_from g.T.Element.value l.h (drop l.element-index l.elements) ≡ digest_by g.T.Element.value l.elements)
