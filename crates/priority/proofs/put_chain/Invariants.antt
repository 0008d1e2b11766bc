-- The part of the chain that ends at the place at hand is still to be laid, but for that place.
use Rattle.priority.proofs.Linking.{Linked}
use Rattle.priority.proofs.put_chain.Given as goal

abbrev pub invariant-loop-l : goal.invariant-loop-l
invariant-loop-l g l =
    Linked (g.U.Unit.words l.table.units.now) (g.U.Unit.words l.levels) (g.U.Unit.words l.fn.chain) (g.U.Unit.words l.chain) l.count l.l l.at.0
