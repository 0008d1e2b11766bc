use Rattle.std.proofs.Common.{◌≡◌, drop}
use Rattle.notation.specs.Views.{operator_entries}
use Rattle.notation.specs.Nodes.{near_place}
use Rattle.notation.proofs.nodes.near_place.Given as goal

-- what is found behind the ones so far is what is found behind none
abbrev pub invariant-loop-operator : goal.invariant-loop-operator
invariant-loop-operator l = near_place l.name (operator_entries (drop l.operator-index l.operators)) ≡ near_place l.name (operator_entries l.operators)
