-- The steps of the atoms that the iterator has given are put, and given is what they came to.
use Rattle.nodes.specs.Nodes.{cells_at}
use Rattle.row.specs.Row.{rows_in}
use Rattle.trace.proofs.Rules.{Put, atoms_left}
use Rattle.trace.proofs.walk.Query.own_rules.Given as goal

abbrev pub invariant-loop-atom : goal.invariant-loop-atom
invariant-loop-atom g l =
    Put (λ m q. g.Q.Asked.meets q m) l.self.asked.now (cells_at l.self.file.words.now l.inner) (rows_in l.atoms) (atoms_left l.atom-iterator.iter) l.given
    l.initial.rules.items l.rules.items
