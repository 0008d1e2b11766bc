-- The body is the definition.
use Rattle.std.proofs.Common.{refl}
use Rattle.field.specs.Value.{right_value}
use Rattle.field.proofs.right_value.Goals as goal

pub returns : goal.returns
unfolding right_value
returns c = refl
