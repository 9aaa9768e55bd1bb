-- `wholeness::whole` meets its contract: each part is its definition. Assumes nothing.
use Rattle.choice.specs.Pick.{◌and◌}
use Rattle.wholeness.specs.Whole.{whole}
use Rattle.wholeness.proofs.whole.Goals as goal

pub returns : goal.returns
unfolding whole ◌and◌
returns c =
    simp (
      c.live_fits.ensures,
      c.restoring_fits.ensures,
      c.back_fits.ensures,
      c.forward_fits.ensures,
      c.staged_fits.ensures,
      c.counts_fit.ensures,
      c.lengths_fit.ensures,
    )
