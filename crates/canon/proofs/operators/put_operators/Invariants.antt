use Rattle.std.proofs.Common.{drop}
use Rattle.notation.specs.Views.{operator_entries}
use Rattle.canon.specs.Text.{operators_text}
use Rattle.canon.proofs.operators.put_operators.Given as goal

-- once the operators that are left are put, and the empty line, all are
abbrev pub invariant-loop-operator : goal.invariant-loop-operator
invariant-loop-operator g l =
    (s : _) → g.S.Sink.gives l.sink (operators_text (operator_entries (drop l.operator-index l.operators))) s
    → g.S.Sink.gives l.fn.sink (operators_text (operator_entries l.operators)) s
