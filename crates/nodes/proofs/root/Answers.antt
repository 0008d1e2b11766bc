-- The body is the definition.
use Rattle.nodes.specs.Nodes.{root_spot}
use Rattle.nodes.proofs.root.Goals as goal

pub returns : goal.returns
unfolding root_spot
returns c = rw c.first_atom.ensures
