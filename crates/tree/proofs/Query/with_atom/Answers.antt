-- The test picks the same side in the definition.
use Rattle.nodes.specs.Nodes.{cells_at}
use Rattle.tree.proofs.Own.{with-met, with-unmet}
use Rattle.tree.proofs.Query.with_atom.Goals as goal

pub returns-then-meets : goal.returns-then-meets
returns-then-meets c = with-met _ c.args.atom.now _ _ c.read.ensures c.meets.ensures c.row_action.ensures c.if-meets.true c.join_at.ensures

pub returns-else-meets : goal.returns-else-meets
returns-else-meets c = with-unmet (cells_at c.args.self.now.file.words.now c.args.inner) c.args.atom.now _ _ c.read.ensures c.meets.ensures c.if-meets.false
