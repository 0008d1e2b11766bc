-- Asked of each node.
use Rattle.std.proofs.Common.{rules, ◌∙◌, tests}
use Rattle.std.proofs.lemmas.Iterator.Search.{any_from_yields_List}
use Rattle.std.proofs.lemmas.Iterator.Consumers.{YieldsList-from_first}
use Rattle.policy.specs.Node.{names_operator, nodes_held, nodes_left}
use Rattle.policy.proofs.NodeWords.{any-named}
use Rattle.policy.proofs.laws.is_named.Goals as goal

pub returns : goal.returns
returns c =
    any_from_yields_List (names_operator c.args.operator) c.any.new.self _ _ c.any.ensures.ran
    (YieldsList-from_first (λ x. x) nodes_left {s = c.of.result} (nodes_held c.args.nodes.now) c.of.ensures)
    (λ x b q k. search (rules, tests))
    ∙ any-named c.args.operator c.args.nodes.now
