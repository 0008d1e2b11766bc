-- The first i words are the levels of the first i rows, and count is how many levels these have.
use Rattle.priority.proofs.Levelling.{Levelling}
use Rattle.priority.proofs.put_levels.Given as goal

abbrev pub invariant-loop-i : goal.invariant-loop-i
invariant-loop-i g l = Levelling (g.U.Unit.words l.table.units.now) (g.U.Unit.words l.initial.levels) (g.U.Unit.words l.levels) l.i l.count
