-- The body is the definition, with the callees' results rewritten.
use Rattle.flow.specs.Match.{both}
use Rattle.flow.proofs.Match.both.Goals as goal

pub returns : goal.returns
unfolding both
returns c =
    rw (
      c.common_value-4.ensures,
      c.constrains-4.ensures,
      c.common_value-3.ensures,
      c.constrains-3.ensures,
      c.common_value-2.ensures,
      c.constrains-2.ensures,
      c.longer-2.ensures,
      c.longer.ensures,
      c.common_value.ensures,
      c.constrains.ensures,
    )
