-- An empty match lies inside all; of another a test that fails settles the conjunction, and where those that are asked
-- first pass the rest decides.
use Rattle.std.proofs.Common.{arith}
use Rattle.std.proofs.lemmas.Grind.{common_steps}
use Rattle.flow.specs.Match.{inside}
use Rattle.flow.proofs.ByFlags.{inside-by-flags}
use Rattle.flow.proofs.Match.lies_inside.Goals as goal

pub returns-then-is_empty : goal.returns-then-is_empty
unfolding inside
returns-then-is_empty c = rw (← c.is_empty.ensures, c.if-is_empty.true)

pub returns-then-covers-2 : goal.returns-then-covers-2
returns-then-covers-2 c = grind (arith, common_steps, inside-by-flags c.args.self c.args.other)

pub returns-else-covers-2 : goal.returns-else-covers-2
unfolding inside
returns-else-covers-2 c = grind (arith, common_steps)
