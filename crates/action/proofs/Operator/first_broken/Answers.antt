-- What the pairs give tells what the search finds.
use Rattle.std.proofs.Common.{rules, ◌≡◌, ◌∙◌, ap}
use Rattle.action.specs.Laws.{first_pair, law_search}
use Rattle.action.specs.Search.{pair_by, triple_by}
use Rattle.action.proofs.Backwards.{pairs-beside, triples-beside}
use Rattle.action.proofs.Operator.first_broken.Goals as goal

pub returns-in_err-first_pair : goal.returns-in_err-first_pair
unfolding law_search
returns-in_err-first_pair c =
    let o = c.args.self.now.cells in
    let pairs : c.first_pair.result ≡ first_pair o = c.first_pair.ensures ∙ ap (pair_by o) c.requires ∙ pairs-beside o in
    search (rules, pairs)

pub returns : goal.returns
unfolding law_search
returns c =
    let o = c.args.self.now.cells in
    let pairs : c.first_pair.result ≡ first_pair o = c.first_pair.ensures ∙ ap (pair_by o) c.requires ∙ pairs-beside o in
    let table = ap (triple_by o) c.requires in
    search (rules, pairs, table, triples-beside o)
