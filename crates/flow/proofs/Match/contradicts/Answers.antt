-- Its flags and its protocol tell.
use Rattle.flow.specs.Match.{contradicts}
use Rattle.flow.proofs.Match.contradicts.Goals as goal

pub returns : goal.returns
unfolding contradicts
returns c = c.clash.ensures
