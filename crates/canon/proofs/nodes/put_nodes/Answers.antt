-- A node, what stands behind it, and the nodes that are left are put one behind the other.
use Rattle.notation.specs.Views.{operator_entries, node_entry, node_entries}
use Rattle.canon.proofs.Ends.{node_after}
use Rattle.canon.proofs.nodes.put_nodes.Goals as goal

pub loop-node-preserved : goal.loop-node-preserved
loop-node-preserved g c = λ s h.
    let then = g.met.S.Sink.then in
    let others = node_entries c.in-Some.rest.now in
    c.loop-node.invariant s
    (rw (c.in-Some.ensures.cases.0, ← node_after (operator_entries c.args.operators.now) (node_entry c.in-Some.node.now) others)
    (then _ _ _ _ _ c.put_node.ensures (then _ _ _ _ _ c.put_after.ensures h)))
