-- What falls is the number of nodes left; children at a place come before the subtree that stands there.
use Rattle.std.proofs.Common.{◌+◌}
use Rattle.trace.proofs.walk.Query.+children_subtree.Given as goal

abbrev pub decreases-children : goal.decreases-children
decreases-children g l = l.at.now.nodes_left + l.at.now.nodes_left + 1

abbrev pub decreases-subtree : goal.decreases-subtree
decreases-subtree g l = l.at.now.nodes_left + l.at.now.nodes_left
