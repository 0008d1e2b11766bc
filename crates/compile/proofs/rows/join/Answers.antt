-- The common rows are put before the two tables.
use Rattle.std.proofs.Common.{arith}
use Rattle.compile.proofs.Going.{lays-ends}
use Rattle.compile.proofs.Grow.{join-full, join-put}
use Rattle.compile.proofs.rows.join.Goals as goal

pub returns-in_err-made : goal.returns-in_err-made
returns-in_err-made c = rw c.from_residual.ensures (join-full _ (omega arith) (omega arith) (omega arith) c.common_rows.ensures _ c.in_err-made.was)

pub put_before-requires : goal.put_before-requires
put_before-requires c =
    let n = lays-ends c.common_rows.ensures c.in_ok-made.was in
    (n.0, omega arith, omega (arith, n.1), omega arith, omega (arith, c.common_rows.auto.out))

pub returns : goal.returns
returns c =
    join-put _ (omega arith) (omega arith) (omega arith) c.common_rows.ensures c.in_ok-made.was c.put_before.ensures
