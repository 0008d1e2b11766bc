use Rattle.std.proofs.Common.{◌≡◌, drop}
use Rattle.notation.specs.Views.{node_entries}
use Rattle.notation.specs.Nodes.{node_place}
use Rattle.notation.proofs.nodes.node_place.Given as goal

-- what is found behind the ones so far is what is found behind none
abbrev pub invariant-loop-node : goal.invariant-loop-node
invariant-loop-node l = node_place l.name (node_entries (drop l.node-index l.nodes)) ≡ node_place l.name (node_entries l.nodes)
