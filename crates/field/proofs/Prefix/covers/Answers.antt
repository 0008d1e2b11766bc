-- The body is the definition, with the callee's result rewritten.
use Rattle.field.specs.Prefix.{covers}
use Rattle.field.proofs.Prefix.covers.Goals as goal

pub returns : goal.returns
unfolding covers
returns c = rw c.contains.ensures
