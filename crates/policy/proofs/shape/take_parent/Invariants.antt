-- Of the nodes that are left the same wait.
use Rattle.std.proofs.Common.{◌≡◌, reverse, length}
use Rattle.policy.specs.Whole.{waiting_nodes}
use Rattle.policy.proofs.shape.take_parent.Given as goal

abbrev pub invariant-loop-count : goal.invariant-loop-count
invariant-loop-count l = waiting_nodes (reverse l.waiting.items) ≡ waiting_nodes (reverse l.initial.waiting.items)

abbrev pub decreases-loop-count : goal.decreases-loop-count
decreases-loop-count l = length l.waiting.items
