-- One turn of the loop is one row of the left table.
use Rattle.std.proofs.Common.{ap, ◌∙◌, arith}
use Rattle.row.specs.Left.{rows_left}
use Rattle.compile.proofs.Turns.{both-all, both-next, both-end}
use Rattle.compile.proofs.Going.{started, step, stop, finish}
use Rattle.compile.proofs.common.common_rows.Goals as goal

pub loop-row-init : goal.loop-row-init
loop-row-init c =
    started (both-all _ _ _ (ap rows_left c.into_iter-row-iterator.ensures.into_iter_gives ∙ c.of-row-items.ensures)) (omega arith)

pub returns-in_err-done : goal.returns-in_err-done
returns-in_err-done c =
    rw c.from_residual.ensures
    (stop _ c.loop-row.invariant (both-next _ _ c.in-Some.ensures.steps) c.common_with.ensures c.in_err-done.was)

pub loop-row-preserved : goal.loop-row-preserved
loop-row-preserved c =
    step _ c.loop-row.invariant (both-next _ _ c.in-Some.ensures.steps) c.common_with.ensures c.in_ok-done.was c.common_with.auto.out

pub returns : goal.returns
returns c = finish c.loop-row.invariant (both-end _ _ c.in-None.ensures.steps.0)
