-- The action joined with each of the samples.
use Rattle.std.proofs.Common.{rules}
use mathlib.Core.Path.{refl}
use Rattle.action.specs.Operator.{join}
use Rattle.action.specs.Laws.{shown}
use Rattle.action.specs.Search.{joins}
use Rattle.action.proofs.Mapped.{mapped}
use Rattle.action.proofs.Operator.joins.Goals as goal

pub returns : goal.returns
unfolding shown joins
returns c = mapped (join c.args.self.now.cells c.args.a) c.map.ensures.items refl (λ x w q k. search rules)
