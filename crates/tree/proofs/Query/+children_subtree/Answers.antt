-- A node and its children are a tree, a tree and the others are children; each call has fewer nodes left.
use Rattle.std.proofs.Common.{ap, ◌∙◌, arith}
use Rattle.nodes.specs.declared.Spot.{Spot}
use Rattle.nodes.proofs.Places.{behind-own, next-reached}
use Rattle.nodes.proofs.Walk.{none-taken, some-taken}
use Rattle.tree.proofs.Steps.{children-none, children-gave, tree-gave}
use Rattle.tree.proofs.Query.+children_subtree.Goals as goal

pub children-returns-then-count-at : goal.children-returns-then-count-at
children-returns-then-count-at t c = children-none _ (none-taken _ c.requires c.if-count-at.true)

pub children-subtree-first-requires : goal.children-subtree-first-requires
children-subtree-first-requires t c =
    let some = some-taken c.args.count c.args.at.now.nodes_left c.if-count-at.false in (omega arith, (c.requires, some.1))

pub children-children-rest-requires : goal.children-children-rest-requires
children-children-rest-requires t c =
    let some = some-taken c.args.count c.args.at.now.nodes_left c.if-count-at.false in
    (omega (arith, c.subtree-first.ensures.after.less), c.subtree-first.ensures.after.reached)

pub children-returns : goal.children-returns
children-returns t c =
    let some = some-taken c.args.count c.args.at.now.nodes_left c.if-count-at.false in
    children-gave _ _ c.requires some.1 some.0 c.subtree-first.ensures c.children-rest.ensures c.join_at.ensures

pub subtree-children-below-requires : goal.subtree-children-below-requires
subtree-children-below-requires t c =
    let next = c.behind_own.ensures ∙ behind-own _ _ c.requires.reached c.requires.there _ c.node_at-node.ensures in
    (omega (arith, ap (λ (x : Spot). x.nodes_left) next), rw next (next-reached _ _ c.requires.reached c.requires.there))

pub subtree-returns : goal.subtree-returns
subtree-returns t c =
    let next = c.behind_own.ensures ∙ behind-own _ _ c.requires.reached c.requires.there _ c.node_at-node.ensures in
    tree-gave c.requires.reached c.requires.there c.node_at-node.ensures c.atoms_at-atoms.ensures c.own_action-own.ensures
    (rw next at c.children-below.ensures) c.join_at.ensures
