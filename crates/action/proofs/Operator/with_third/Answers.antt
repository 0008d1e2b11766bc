-- The search along the third actions, each beside what the second gives with it.
use Rattle.std.proofs.Common.{rules}
use Rattle.std.proofs.lemmas.Iterator.{YieldsList-from_slice, YieldsList-from_zip}
use Rattle.std.proofs.lemmas.Iterator.Consumers.{YieldsList-at}
use Rattle.std.proofs.lemmas.Iterator.Adapters.{YieldsList-from_skip}
use Rattle.action.specs.Operator.{join}
use Rattle.action.specs.Laws.{shown, same, told}
use Rattle.action.specs.Search.{third_by}
use Rattle.action.specs.declared.LawFailure.TheVariants.{Associativity}
use Rattle.action.proofs.Along.{tried}
use Rattle.action.proofs.Operator.with_third.Goals as goal

pub returns : goal.returns
unfolding shown third_by
returns c =
    tried (λ p. told (same (join c.args.self.now.cells c.args.ab p.0) (join c.args.self.now.cells c.args.a p.1)) (Associativity c.args.a c.args.b p.0))
    c.try_for_each.new.self _ _ c.try_for_each.ensures.ran
    (YieldsList-from_skip _
    (YieldsList-at c.skip-2.ensures.source
    (YieldsList-from_skip c.args.i
    (YieldsList-at c.skip.ensures.source
    (YieldsList-from_zip (YieldsList-at c.zip.ensures.first (YieldsList-from_slice shown c.iter.ensures.rest))
    (YieldsList-from_slice c.args.row.now c.zip.ensures.second.0)))
    c.skip.ensures.count))
    c.skip-2.ensures.count)
    (λ x w q k. search rules)
