-- Test by test.
use Rattle.flow.specs.Match.{is_plain}
use Rattle.flow.proofs.Match.is_plain.Goals as goal

pub returns : goal.returns
unfolding is_plain
returns c =
    rw (
      c.is_right-2.ensures,
      c.is_right.ensures,
      c.right_value-4.ensures,
      c.constrains-4.ensures,
      c.right_value-3.ensures,
      c.constrains-3.ensures,
      c.right_value-2.ensures,
      c.constrains-2.ensures,
      c.right_value.ensures,
      c.constrains.ensures,
    )
