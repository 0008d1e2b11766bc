-- The common match of two that do not overlap is empty, and makes no row.
use Rattle.std.proofs.Common.{arith}
use Rattle.compile.proofs.Turns.{common-dropped, common-kept}
use Rattle.compile.proofs.Going.{lays-none, lays-same}
use Rattle.compile.proofs.common.add_common.Goals as goal

pub returns-then-not-overlap : goal.returns-then-not-overlap
returns-then-not-overlap c =
    lays-none (common-dropped _ _ _ c.read-matching.ensures c.overlap.ensures c.if-not-overlap.true) (omega arith)

pub returns : goal.returns
returns c =
    lays-same
    (common-kept _ _ _ c.read-matching.ensures c.overlap.ensures c.if-not-overlap.false
    c.common-matching.ensures c.row_action.ensures c.join-action.ensures c.words_of_row.ensures)
    c.append.ensures
