-- The test picks the same side in the definition.
use borrow.Author.Tests.{lt-ltb, le-ltb}
use Rattle.nodes.specs.Nodes.{node_place}
use Rattle.nodes.proofs.node_place.Goals as goal

pub returns-then-length-nodes_left-clause-place : goal.returns-then-length-nodes_left-clause-place
unfolding node_place
returns-then-length-nodes_left-clause-place c = rw (lt-ltb _ _ c.if-length-nodes_left.true)

pub returns-clause-place : goal.returns-clause-place
unfolding node_place
returns-clause-place c = rw (le-ltb _ _ c.if-length-nodes_left.false)
