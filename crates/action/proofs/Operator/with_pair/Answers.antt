-- The search along the second actions, each beside what the first gives with it, and beside what it gives with each.
use Rattle.std.proofs.Common.{rules}
use Rattle.std.proofs.lemmas.Iterator.{YieldsList-from_slice, YieldsList-from_zip}
use Rattle.std.proofs.lemmas.Iterator.Consumers.{YieldsList-at}
use Rattle.action.specs.Laws.{shown}
use Rattle.action.specs.Search.{third_by, second_pair_by}
use Rattle.action.proofs.Along.{tried}
use Rattle.action.proofs.Operator.with_pair.Goals as goal

pub returns : goal.returns
unfolding shown second_pair_by
returns c =
    tried (λ p. third_by c.args.self.now.cells c.args.i c.args.a p.0.0 p.0.1 p.1) c.try_for_each.new.self _ _ c.try_for_each.ensures.ran
    (YieldsList-from_zip
    (YieldsList-at c.zip-2.ensures.first
    (YieldsList-from_zip (YieldsList-at c.zip.ensures.first (YieldsList-from_slice shown c.iter.ensures.rest))
    (YieldsList-from_slice c.args.row.now c.zip.ensures.second.0)))
    (YieldsList-from_slice c.args.joined.now c.zip-2.ensures.second.0))
    (λ x w q k. search rules)
