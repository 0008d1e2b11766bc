-- What falls is the number of nodes left: `children` calls `subtree` at the same place.
use Rattle.std.proofs.Common.{◌+◌}
use Rattle.compile.proofs.build.+children_subtree.Given as goal

abbrev pub decreases-subtree : goal.decreases-subtree
decreases-subtree l = l.at.nodes_left + l.at.nodes_left

abbrev pub decreases-children : goal.decreases-children
decreases-children l = l.at.nodes_left + l.at.nodes_left + 1
