-- The search along the first actions, each with its place and beside what it gives with each.
use Rattle.std.proofs.Common.{rules}
use Rattle.std.proofs.lemmas.Iterator.{YieldsList-from_slice, YieldsList-from_zip}
use Rattle.std.proofs.lemmas.Iterator.Consumers.{YieldsList-at, YieldsList-from_enumerate}
use Rattle.action.specs.Laws.{shown}
use Rattle.action.specs.Search.{second_pair_by, triple_by}
use Rattle.action.proofs.Along.{tried}
use Rattle.action.proofs.Operator.first_triple.Goals as goal

pub returns : goal.returns
unfolding shown triple_by
returns c =
    tried (λ p. second_pair_by c.args.self.now.cells p.0 p.1.0 p.1.1 c.args.joined.now)
    c.try_for_each.new.self _ _ c.try_for_each.ensures.ran
    (YieldsList-from_enumerate
    (YieldsList-at c.enumerate.ensures.source
    (YieldsList-from_zip (YieldsList-at c.zip.ensures.first (YieldsList-from_slice shown c.iter.ensures.rest))
    (YieldsList-from_slice c.args.joined.now c.zip.ensures.second.0)))
    c.enumerate.ensures.count)
    (λ x w q k. search rules)
