-- The search along the second actions, each beside what the first gives with it.
use Rattle.std.proofs.Common.{rules}
use Rattle.std.proofs.lemmas.Iterator.{YieldsList-from_slice, YieldsList-from_zip}
use Rattle.std.proofs.lemmas.Iterator.Consumers.{YieldsList-at}
use Rattle.action.specs.Operator.{join}
use Rattle.action.specs.Laws.{shown, same, told}
use Rattle.action.specs.Search.{second_by}
use Rattle.action.specs.declared.LawFailure.TheVariants.{Commutativity}
use Rattle.action.proofs.Along.{tried}
use Rattle.action.proofs.Operator.with_second.Goals as goal

pub returns : goal.returns
unfolding shown second_by
returns c =
    tried (λ p. told (same p.1 (join c.args.self.now.cells p.0 c.args.a)) (Commutativity c.args.a p.0))
    c.try_for_each.new.self _ _ c.try_for_each.ensures.ran
    (YieldsList-from_zip (YieldsList-at c.zip.ensures.first (YieldsList-from_slice shown c.iter.ensures.rest))
    (YieldsList-from_slice c.args.row.now c.zip.ensures.second.0))
    (λ x w q k. search rules)
