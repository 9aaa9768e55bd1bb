-- `status_bits::allowed` meets its contract: the code is the definition. Assumes nothing.
use Rattle.choice.specs.Pick.{◌and◌}
use Rattle.status_bits.proofs.allowed.Goals as goal

pub returns-in-Link : goal.returns-in-Link
unfolding ◌and◌
returns-in-Link c = simp (c.in-Link.is, c.has.ensures, c.has-in-Link.ensures)

pub returns-in-Initialize : goal.returns-in-Initialize
unfolding ◌and◌
returns-in-Initialize c =
    simp (
      c.in-Initialize.is,
      c.has-in-Initialize.ensures,
      c.has-in-Initialize-2.ensures,
      c.has-in-Initialize-3.ensures,
      c.has-in-Initialize-4.ensures,
    )
