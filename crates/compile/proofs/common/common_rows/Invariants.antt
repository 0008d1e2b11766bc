-- The rows to come, laid over what is there, are the whole.
use Rattle.row.specs.Left.{rows_left}
use Rattle.compile.specs.Tables.{common_rows_words}
use Rattle.compile.proofs.Turns.{both_rows}
use Rattle.compile.proofs.Going.{Going}
use Rattle.compile.proofs.common.common_rows.Given as goal

abbrev pub invariant-loop-row : goal.invariant-loop-row
invariant-loop-row l =
    Going l.at (common_rows_words l.operator.cells l.left l.right) l.initial.out l.done
    (both_rows l.operator.cells l.right (rows_left l.row-iterator)) l.out
