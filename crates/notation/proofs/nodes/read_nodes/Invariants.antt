use Rattle.std.proofs.Common.{◌≡◌, ◌≤◌, ◌-◌, [], length}
use Rattle.policy.specs.Numbers.{most_atoms, most_nodes}
use Rattle.tokens.specs.Left.{left}
use Rattle.notation.specs.Nodes.{nodes_at, rule_count}
use Rattle.notation.specs.Views.{operator_entries, node_entries}
use Rattle.notation.proofs.nodes.read_nodes.Given as goal

-- what is read behind the nodes so far is what is read behind none, and there is room for them and their rules
abbrev pub invariant-loop-alloc : goal.invariant-loop-alloc
invariant-loop-alloc l =
    (nodes_at (most_nodes - length l.nodes.items) (operator_entries l.operators.items) (node_entries l.nodes.items) l.unclosed
    (left l.tokens)
    ≡ nodes_at most_nodes (operator_entries l.fn.operators.items) [] 0 (left l.fn.tokens))
    × (length l.nodes.items ≤ most_nodes)
    × (l.rules ≡ rule_count (node_entries l.nodes.items))
    × (l.rules ≤ most_atoms)
    × (l.unclosed ≤ length l.nodes.items)

abbrev pub decreases-loop-alloc : goal.decreases-loop-alloc
decreases-loop-alloc l = most_nodes - length l.nodes.items
