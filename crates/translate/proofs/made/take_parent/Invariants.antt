use Rattle.std.proofs.Common.{◌≡◌, reverse, length}
use Rattle.policy.specs.Whole.{waiting_nodes}
use Rattle.translate.proofs.made.take_parent.Given as goal

-- of the nodes that are left the same wait
abbrev pub invariant-loop-count : goal.invariant-loop-count
invariant-loop-count l = waiting_nodes (reverse l.waiting.items) ≡ waiting_nodes (reverse l.initial.waiting.items)

abbrev pub decreases-loop-count : goal.decreases-loop-count
decreases-loop-count l = length l.waiting.items
