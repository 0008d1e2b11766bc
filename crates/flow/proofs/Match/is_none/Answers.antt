-- Equal fields are equal words.
use Rattle.std.proofs.Common.{arith}
use Rattle.std.proofs.lemmas.Grind.{common_steps}
use Rattle.flow.specs.Match.{is_none}
use Rattle.flow.proofs.Match.is_none.Goals as goal

pub returns : goal.returns
unfolding is_none
returns c = grind (arith, common_steps)
