-- The body is the definition.
use Rattle.std.proofs.Common.{refl}
use Rattle.field.specs.Value.{meets_value, values_meet}
use Rattle.field.proofs.values_meet.Goals as goal

pub returns : goal.returns
unfolding values_meet meets_value
returns c = refl
