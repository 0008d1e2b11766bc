-- The search along the first actions, each beside what it gives with each.
use Rattle.std.proofs.Common.{rules}
use Rattle.std.proofs.lemmas.Iterator.{YieldsList-from_slice, YieldsList-from_zip}
use Rattle.std.proofs.lemmas.Iterator.Consumers.{YieldsList-at}
use Rattle.action.specs.Laws.{shown}
use Rattle.action.specs.Search.{second_by, pair_by}
use Rattle.action.proofs.Along.{tried}
use Rattle.action.proofs.Operator.first_pair.Goals as goal

pub returns : goal.returns
unfolding shown pair_by
returns c =
    tried (λ p. second_by c.args.self.now.cells p.0 p.1) c.try_for_each.new.self _ _ c.try_for_each.ensures.ran
    (YieldsList-from_zip (YieldsList-at c.zip.ensures.first (YieldsList-from_slice shown c.iter.ensures.rest))
    (YieldsList-from_slice c.args.joined.now c.zip.ensures.second.0))
    (λ x w q k. search rules)
