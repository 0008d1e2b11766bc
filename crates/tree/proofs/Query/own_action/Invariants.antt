-- What is given is the action of the atoms that the iterator has given.
use Rattle.nodes.specs.Nodes.{cells_at}
use Rattle.row.specs.Row.{rows_in}
use Rattle.tree.proofs.Own.{Behind, atoms_left}
use Rattle.tree.proofs.Query.own_action.Given as goal

abbrev pub invariant-loop-atom : goal.invariant-loop-atom
invariant-loop-atom l = Behind (cells_at l.self.file.words.now l.inner) l.self.packet (rows_in l.atoms) (atoms_left l.atom-iterator.iter) l.given
