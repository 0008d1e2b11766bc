use Rattle.std.proofs.Common.{◌≡◌, ◌≤◌, ◌-◌, [], length}
use Rattle.policy.specs.Numbers.{most_operators}
use Rattle.tokens.specs.Left.{left}
use Rattle.notation.specs.Operators.{operators_at}
use Rattle.notation.specs.Views.{operator_entries}
use Rattle.notation.proofs.operators.read_operators.Given as goal

-- what is read behind the operators so far is what is read behind none, and there is room for them
abbrev pub invariant-loop-alloc : goal.invariant-loop-alloc
invariant-loop-alloc l =
    (operators_at (most_operators - length l.operators.items) (operator_entries l.operators.items) (left l.tokens)
    ≡ operators_at most_operators [] (left l.fn.tokens))
    × (length l.operators.items ≤ most_operators)

abbrev pub decreases-loop-alloc : goal.decreases-loop-alloc
decreases-loop-alloc l = most_operators - length l.operators.items
