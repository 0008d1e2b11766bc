-- A turn of the loop is a row: it stays and is stored behind those that do, or it goes.
use Rattle.std.proofs.Common.{◌/◌, ◌<◌, length, arith}
use Rattle.row.specs.Row.{row_length}
use Rattle.hidden.proofs.Turns.{keeping_start, keeping-length, keeping-goes, keeping-stays, keeping-end, keeping-table}
use Rattle.hidden.proofs.keep_rows.Goals as goal
use Rattle.hidden.proofs.keep_rows.Goals.{then-not-inside_one, else-not-inside_one}

pub loop-i-init : goal.loop-i-init
loop-i-init c = keeping_start c.args.table.now

pub slice_bounds-read-end : goal.slice_bounds-read-end
slice_bounds-read-end c = omega (arith, keeping-length c.loop-i.invariant)

pub loop-i-preserved : goal.loop-i-preserved
loop-i-preserved c =
    let k = c.loop-i.invariant in
    let h : c.loop-i.i < length c.loop-i.table / row_length = omega (arith, keeping-length k) in
    elim c.if-not-inside_one.branch [
      | then-not-inside_one w ↦
          rw (w.table-is, w.to-is)
          (keeping-stays k h _ c.read-m.ensures _ c.inside_one.ensures c.requires _ w.copy_within.ensures.after w.if-not-inside_one.true)
      | else-not-inside_one w ↦ rw (w.table-is, w.to-is) (keeping-goes k h _ c.read-m.ensures _ c.inside_one.ensures w.if-not-inside_one.false)
    ]

pub shape_of-table : goal.shape_of-table
shape_of-table c = keeping-length c.loop-i.invariant

pub returns-clause-value : goal.returns-clause-value
returns-clause-value c = keeping-end c.loop-i.invariant (omega (arith, keeping-length c.loop-i.invariant))

pub returns-clause-table_after : goal.returns-clause-table_after
returns-clause-table_after c = keeping-table c.loop-i.invariant (omega (arith, keeping-length c.loop-i.invariant))
