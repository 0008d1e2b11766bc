-- The table of the atoms gone over stands at the end of scratch.
use Rattle.row.specs.Row.{rows_in}
use Rattle.row.specs.Left.{rows_left}
use Rattle.compile.proofs.Own.{Behind}
use Rattle.compile.proofs.rows.own_rows.Given as goal

abbrev pub invariant-loop-atom : goal.invariant-loop-atom
invariant-loop-atom l =
    Behind l.operator.cells (rows_in l.atoms) (rows_left l.atom-iterator.iter) l.start l.first l.initial.table l.table l.scratch
