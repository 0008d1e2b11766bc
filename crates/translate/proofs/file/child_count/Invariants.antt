use Rattle.std.proofs.Common.{◌≡◌, ◌+◌, ◌≤◌, map, drop}
use Rattle.depths.specs.Depths.{children}
use Rattle.notation.specs.Views.{node_entries}
use Rattle.translate.proofs.file.child_count.Given as goal

-- the children so far and those among the nodes that are left are all
abbrev pub invariant-loop-node : goal.invariant-loop-node
invariant-loop-node l = record {
  count : l.count + children l.depth (map (λ n. n.depth) (node_entries (drop l.node-index l.behind)))
      ≡ children l.depth (map (λ n. n.depth) (node_entries l.behind));
  few : l.count ≤ l.node-index;
}
