use Rattle.std.proofs.Common.{◌≡◌, drop}
use Rattle.notation.specs.Views.{operator_entries}
use Rattle.notation.specs.Operators.{operator_place}
use Rattle.notation.proofs.operators.operator_place.Given as goal

-- what is found behind the ones so far is what is found behind none
abbrev pub invariant-loop-operator : goal.invariant-loop-operator
invariant-loop-operator l = operator_place l.name (operator_entries (drop l.operator-index l.operators)) ≡ operator_place l.name (operator_entries l.operators)
