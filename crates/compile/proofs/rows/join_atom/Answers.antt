-- An atom with the empty match leaves the table; another is one row, put before the table with its common rows.
use Rattle.std.proofs.Common.{arith}
use Rattle.compile.proofs.Going.{lays-ends}
use Rattle.compile.proofs.Own.{atom-none, atom-full, atom-joined}
use Rattle.compile.proofs.rows.join_atom.Goals as goal

pub returns-then-is_empty : goal.returns-then-is_empty
returns-then-is_empty c =
    atom-none _ _ _ c.is_empty.ensures c.if-is_empty.true c.requires.0 c.requires.1

pub returns-in_err-end : goal.returns-in_err-end
returns-in_err-end c =
    rw c.from_residual.ensures
    (atom-full _ _ _ _ c.is_empty.ensures c.if-is_empty.false c.row_before.ensures _
    (omega (arith, c.requires.2)) c.in_err-end.was)

pub slice_bounds-put_up_to-count : goal.slice_bounds-put_up_to-count
slice_bounds-put_up_to-count c = omega (arith, lays-ends c.row_before.ensures c.in_ok-end.was)

pub slice_bounds-put_up_to-start : goal.slice_bounds-put_up_to-start
slice_bounds-put_up_to-start c = omega (arith, lays-ends c.row_before.ensures c.in_ok-end.was)

pub slice_bounds-put_up_to-end : goal.slice_bounds-put_up_to-end
slice_bounds-put_up_to-end c = omega (arith, lays-ends c.row_before.ensures c.in_ok-end.was)

pub returns : goal.returns
returns c =
    atom-joined _ c.args.first c.args.scratch.now _ c.is_empty.ensures c.if-is_empty.false
    c.row_before.ensures c.in_ok-end.was c.put_up_to.ensures
