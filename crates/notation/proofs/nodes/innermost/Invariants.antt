use Rattle.std.proofs.Common.{◌≡◌, drop}
use Rattle.notation.specs.Views.{node_entries}
use Rattle.notation.specs.Nodes.{innermost}
use Rattle.notation.proofs.nodes.innermost.Given as goal

-- the place so far, and the nodes that are left, give the place of all
abbrev pub invariant-loop-node : goal.invariant-loop-node
invariant-loop-node l =
    innermost l.place l.depth (node_entries (drop l.node-index l.nodes)) ≡ innermost 0 l.depth (node_entries l.nodes)
