use Rattle.std.proofs.Common.{◌≡◌, ◌+◌, drop}
use Rattle.std.specs.Prelude.{option_map}
use Rattle.notation.specs.Views.{operator_entries}
use Rattle.notation.specs.Nodes.{operator_index}
use Rattle.notation.proofs.nodes.operator_index.Given as goal

-- the index among those that are left, counted on, is the index among all
abbrev pub invariant-loop-i : goal.invariant-loop-i
invariant-loop-i l =
    option_map (λ k. k + l.i) (operator_index l.name (operator_entries (drop l.i l.operators)))
    ≡ operator_index l.name (operator_entries l.operators)
