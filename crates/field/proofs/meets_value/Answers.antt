-- The body is the definition.
use Rattle.std.proofs.Common.{refl}
use Rattle.field.specs.Value.{meets_value}
use Rattle.field.proofs.meets_value.Goals as goal

pub returns : goal.returns
unfolding meets_value
returns c = refl
