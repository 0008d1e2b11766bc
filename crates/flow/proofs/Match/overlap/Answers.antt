-- A test that fails settles the conjunction, and where those that are asked first pass the rest decides.
use Rattle.std.proofs.Common.{arith}
use Rattle.std.proofs.lemmas.Grind.{common_steps}
use Rattle.flow.specs.Match.{overlap, both, is_empty}
use Rattle.flow.proofs.Match.overlap.Goals as goal

pub returns-then-agrees_in-4 : goal.returns-then-agrees_in-4
unfolding overlap both is_empty
returns-then-agrees_in-4 c = grind (arith, common_steps)

pub returns-else-agrees_in-4 : goal.returns-else-agrees_in-4
unfolding overlap both is_empty
returns-else-agrees_in-4 c = grind (arith, common_steps)
