-- The table is stored behind the words in scratch, and all is put back.
use Rattle.std.proofs.Common.{arith}
use Rattle.compile.proofs.Going.{lays-ends}
use Rattle.compile.proofs.Grow.{put-none, put_full, put_all}
use Rattle.compile.proofs.rows.put_before.Goals as goal

pub returns-then-made-start : goal.returns-then-made-start
returns-then-made-start c =
    put-none _ _ _ _ _ (omega arith) (omega arith) (omega arith) (omega arith) (omega arith) c.if-made-start.true

pub returns-in_err-e : goal.returns-in_err-e
returns-in_err-e c =
    rw c.from_residual.ensures
    (put_full _ _ _ _ _ (omega arith) (omega arith) (omega arith) (omega arith) (omega arith) c.append.ensures
    c.in_err-e.was)

pub slice_bounds-store-count : goal.slice_bounds-store-count
slice_bounds-store-count c = omega (arith, lays-ends c.append.ensures c.in_ok-e.was)

pub slice_bounds-store-start : goal.slice_bounds-store-start
slice_bounds-store-start c = omega (arith, lays-ends c.append.ensures c.in_ok-e.was)

pub slice_bounds-store-end : goal.slice_bounds-store-end
slice_bounds-store-end c = omega (arith, lays-ends c.append.ensures c.in_ok-e.was)

pub returns : goal.returns
returns c =
    put_all _ _ _ _ _ (omega arith) (omega arith) (omega arith) (omega arith) (omega arith) c.append.ensures
    c.in_ok-e.was c.store.ensures
