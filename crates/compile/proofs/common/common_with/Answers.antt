-- One turn of the loop is one row of the table.
use Rattle.std.proofs.Common.{arith}
use Rattle.compile.proofs.Turns.{with-all, with-next, with-end}
use Rattle.compile.proofs.Going.{started, step, stop, finish}
use Rattle.compile.proofs.common.common_with.Goals as goal

pub loop-other-init : goal.loop-other-init
loop-other-init c = started (with-all _ _ _ c.as_chunks.ensures.front) (omega arith)

pub returns-in_err-done : goal.returns-in_err-done
returns-in_err-done c =
    rw c.from_residual.ensures
    (stop _ c.loop-other.invariant (with-next _ _ _ _ c.loop-other-test.true) c.add_common.ensures c.in_err-done.was)

pub loop-other-preserved : goal.loop-other-preserved
loop-other-preserved c =
    step _ c.loop-other.invariant (with-next _ _ _ _ c.loop-other-test.true) c.add_common.ensures c.in_ok-done.was c.add_common.auto.out

pub returns : goal.returns
returns c = finish c.loop-other.invariant (with-end _ _ c.as_chunks.result.0.now c.loop-other.other-index (omega arith))
