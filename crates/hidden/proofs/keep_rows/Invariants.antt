-- The rows before row i are done, and those of them that stay stand before `to`.
use Rattle.hidden.proofs.Turns.{Keeping}
use Rattle.hidden.proofs.keep_rows.Given as goal

abbrev pub invariant-loop-i : goal.invariant-loop-i
invariant-loop-i l = Keeping l.fn.table l.table l.i l.to
