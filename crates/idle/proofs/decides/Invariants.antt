-- The rows that are left are still to be asked.
use Rattle.std.proofs.Common.{◌≡◌}
use Rattle.row.specs.Row.{rows_in}
use Rattle.row.specs.Left.{rows_left}
use Rattle.idle.specs.Idle.{decides}
use Rattle.idle.proofs.decides.Given as goal

abbrev pub invariant-loop-row : goal.invariant-loop-row
invariant-loop-row l = decides l.file l.fn.layout (rows_left l.row-iterator) l.place ≡ decides l.file l.fn.layout (rows_in l.rows) l.place
