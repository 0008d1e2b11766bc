-- Of the definition's two tests, the one that mostly passes is made first.
use mathlib.Core.Bool.{or-true, or-false}
use Rattle.flow.specs.Match.{right_match}
use Rattle.flow.proofs.Match.is_right.Goals as goal

pub returns-then-is_plain : goal.returns-then-is_plain
unfolding right_match
returns-then-is_plain c = rw (← c.is_plain.ensures, c.if-is_plain.true, or-true)

pub returns-else-is_plain : goal.returns-else-is_plain
unfolding right_match
returns-else-is_plain c = rw (c.is_none.ensures, ← c.is_plain.ensures, c.if-is_plain.false, or-false)
