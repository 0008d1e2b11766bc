-- The rows to come, laid over what is there, are the whole.
use Rattle.std.proofs.Common.{drop}
use Rattle.compile.specs.Tables.{common_with_words}
use Rattle.compile.proofs.Turns.{with_chunks}
use Rattle.compile.proofs.Going.{Going}
use Rattle.compile.proofs.common.common_with.Given as goal

abbrev pub invariant-loop-other : goal.invariant-loop-other
invariant-loop-other l =
    Going l.at (common_with_words l.operator.cells l.row l.table) l.initial.out l.done
    (with_chunks l.operator.cells l.row (drop l.other-index l.other-items)) l.out
