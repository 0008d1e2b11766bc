-- The nodes that are left, from the stack on, come to what all nodes come to.
use Rattle.std.proofs.Common.{◌≡◌, ◌+◌, ◌/◌, length, reverse}
use Rattle.policy.specs.Numbers.{node_length}
use Rattle.policy.specs.Node.{nodes_left}
use Rattle.policy.specs.Whole.{nodes_by_words, shape, shape_fault}
use Rattle.policy.proofs.NodeWords.{counts}
use Rattle.policy.proofs.shape.shape_fault.Given as goal

abbrev pub invariant-loop-i : goal.invariant-loop-i
invariant-loop-i l = record {
  all : l.i-iterator.count + length (nodes_left l.i-iterator.iter) ≡ length l.nodes / node_length;
  same : shape (counts (nodes_left l.i-iterator.iter)) (reverse l.waiting.items) l.i-iterator.count
      ≡ shape_fault (nodes_by_words l.nodes);
}
