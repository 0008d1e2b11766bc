-- By what the check finds.
use Rattle.std.proofs.lemmas.Result.{err_from_is_err_and}
use Rattle.table.proofs.Tested.{tested-right, tested-passes}
use Rattle.hidden.proofs.Passed.{right_answer, right-table, wrong_answer, wrong-table}
use Rattle.hidden.proofs.drop_hidden.Goals as goal

pub returns-in_err-try_from-clause-value : goal.returns-in_err-try_from-clause-value
returns-in_err-try_from-clause-value c =
    let p = err_from_is_err_and c.from_residual.result c.from_residual.ensures.1 in
    rw (p.1, p.2) (wrong_answer c.args.table.now (rw c.in_err-try_from.was at c.try_from.ensures))

pub returns-in_err-try_from-clause-table_after : goal.returns-in_err-try_from-clause-table_after
returns-in_err-try_from-clause-table_after c = wrong-table c.args.table.now (rw c.in_err-try_from.was at c.try_from.ensures)

pub keep_rows-end-requires : goal.keep_rows-end-requires
keep_rows-end-requires c = tested-right c.in_ok-try_from.field-0.right (rw c.in_ok-try_from.was at c.try_from.ensures)

pub returns-clause-value : goal.returns-clause-value
returns-clause-value c =
    right_answer c.args.table.now (tested-passes c.in_ok-try_from.field-0.right (rw c.in_ok-try_from.was at c.try_from.ensures)) c.keep_rows-end.ensures.value

pub returns-clause-table_after : goal.returns-clause-table_after
returns-clause-table_after c =
    right-table c.args.table.now (tested-passes c.in_ok-try_from.field-0.right (rw c.in_ok-try_from.was at c.try_from.ensures)) c.keep_rows-end.ensures.value
    c.keep_rows-end.ensures.table_after c.clear_from.ensures
