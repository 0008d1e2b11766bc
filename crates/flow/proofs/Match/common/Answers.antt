-- The overlap test picks the same side in the definition.
use Rattle.flow.specs.Match.{common}
use Rattle.flow.proofs.Match.common.Goals as goal

pub returns-then-overlap : goal.returns-then-overlap
unfolding common
returns-then-overlap c = rw (← c.overlap.ensures, c.if-overlap.true) c.both.ensures

pub returns-else-overlap : goal.returns-else-overlap
unfolding common
returns-else-overlap c = rw (← c.overlap.ensures, c.if-overlap.false)
