use Rattle.std.proofs.Common.{length}
use Rattle.notation.specs.Views.{operator_entries, node_entries}
use Rattle.canon.specs.Text.{nodes_text}
use Rattle.canon.proofs.nodes.put_nodes.Given as goal

-- once the nodes that are left are put, all are
abbrev pub invariant-loop-node : goal.invariant-loop-node
invariant-loop-node g l =
    (s : _) → g.S.Sink.gives l.sink (nodes_text (operator_entries l.operators) (node_entries l.left)) s
    → g.S.Sink.gives l.fn.sink (nodes_text (operator_entries l.operators) (node_entries l.nodes)) s

-- fewer are left
abbrev pub decreases-loop-node : goal.decreases-loop-node
decreases-loop-node g l = length l.left
