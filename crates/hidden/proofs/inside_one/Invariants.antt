-- The rows that are left are still to be asked.
use Rattle.std.proofs.Common.{◌≡◌}
use Rattle.theory.specs.Hidden.{inside_one}
use Rattle.flow.specs.Match.{inside}
use Rattle.row.specs.Row.{rows_in}
use Rattle.row.specs.Left.{rows_left}
use Rattle.hidden.proofs.inside_one.Given as goal

abbrev pub invariant-loop-row : goal.invariant-loop-row
invariant-loop-row l = inside_one inside l.m (rows_left l.row-iterator) ≡ inside_one inside l.m (rows_in l.rows)
