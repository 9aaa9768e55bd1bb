-- What the types of an opening's numbers say, which definitions do not: a revision and a count of replacements are u64s. Assumes
-- nothing.
use Rattle.std.specs.Prelude.{◌≤◌}
use Rattle.record.specs.Fields.{top}
use Rattle.record.specs.declared.Opening.{Opening}

pub record Typed (given : Opening) : Type 0 where
  pub revision : given.revision ≤ top
  pub replacements : given.replacements ≤ top
