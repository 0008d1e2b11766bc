-- Once the lines of the rows that are left are put, those of all rows are.
use Rattle.row.specs.Row.{rows_in}
use Rattle.row.specs.Left.{rows_left}
use Rattle.show.specs.Sheet.{lines}
use Rattle.show.proofs.sheet.list_rows.Given as goal

abbrev pub invariant-loop-priority : goal.invariant-loop-priority
invariant-loop-priority g l =
    (s : _) → g.S.Sink.gives l.sink (lines l.priority-iterator.a.rest.now (rows_left l.priority-iterator.b)) s
    → g.S.Sink.gives l.initial.sink (lines l.priorities (rows_in l.table)) s
