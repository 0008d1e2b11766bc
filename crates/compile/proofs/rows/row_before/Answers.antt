-- The row's words are laid behind the common rows.
use Rattle.std.proofs.Common.{arith}
use Rattle.compile.proofs.Own.{lays-then, lays-first-full}
use Rattle.compile.proofs.Going.{lays-case, lays-same, lays-ends}
use Rattle.compile.proofs.rows.row_before.Goals as goal

pub returns-in_err-end : goal.returns-in_err-end
returns-in_err-end c = rw c.from_residual.ensures (lays-first-full _ _ c.common_with.ensures c.in_err-end.was)

pub append-requires : goal.append-requires
append-requires c =
    let n = lays-ends c.common_with.ensures c.in_ok-end.was in omega (arith, n.1, c.common_with.auto.out)

pub returns : goal.returns
returns c =
    lays-then (lays-case c.in_ok-end.was c.common_with.ensures) (lays-same c.words_of_row.ensures c.append.ensures)
