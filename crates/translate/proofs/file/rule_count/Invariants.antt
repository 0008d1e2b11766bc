use Rattle.std.proofs.Common.{◌≡◌, ◌+◌, drop}
use Rattle.notation.specs.Nodes.{rule_count}
use Rattle.notation.specs.Views.{node_entries}
use Rattle.translate.proofs.file.rule_count.Given as goal

-- the rules so far and those of the nodes that are left are all
abbrev pub invariant-loop-node : goal.invariant-loop-node
invariant-loop-node l = l.count + rule_count (node_entries (drop l.node-index l.nodes)) ≡ rule_count (node_entries l.nodes)
