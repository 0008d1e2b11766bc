-- Flag 16 and a contradiction are what the definition asks for.
use Rattle.flow.specs.Match.{contradicts, unmet, is_empty}
use Rattle.flow.proofs.Match.is_empty.Goals as goal

pub returns : goal.returns
unfolding is_empty unmet contradicts
returns c = rw (c.contradicts.ensures, c.constrains.ensures)
