-- A node and its children are a tree, a tree and the others are children; each call has fewer nodes left.
use Rattle.std.proofs.Common.{ap, refl, ◌∙◌, arith}
use Rattle.nodes.specs.declared.Spot.{Spot}
use Rattle.nodes.proofs.Places.{behind-own, next-reached}
use Rattle.nodes.proofs.Walk.{none-taken, some-taken}
use Rattle.trace.proofs.Nodes.{children-none, children-settled, tree-settled}
use Rattle.trace.proofs.walk.Query.+children_subtree.Goals as goal

pub children-returns-then-count-at : goal.children-returns-then-count-at
children-returns-then-count-at g t c =
    children-none (λ m q. g.Q.Asked.meets q m) _ _ _ (none-taken _ c.requires c.if-count-at.true)

pub children-subtree-requires : goal.children-subtree-requires
children-subtree-requires g t c κs within =
    let some = some-taken c.args.count c.args.at.now.nodes_left c.if-count-at.false in (omega arith, (within, (c.requires, some.1)))

pub children-children-requires : goal.children-children-requires
children-children-requires g t c κs within =
    let some = some-taken c.args.count c.args.at.now.nodes_left c.if-count-at.false in
    (omega (arith, c.in_ok-step.ensures.behind.less), (within, c.in_ok-step.ensures.behind.reached))

pub children-returns : goal.children-returns
children-returns g t c =
    let some = some-taken c.args.count c.args.at.now.nodes_left c.if-count-at.false in
    children-settled (λ m q. g.Q.Asked.meets q m) _ _ _ _ c.requires some.1 some.0 (c.len-place.ensures ∙ c.args.steps.now.nodes.ok.0) refl
    c.in_ok-push.ensures.items c.in_ok-step.ensures c.in_ok-rest.ensures c.join_at-joined.ensures refl refl

pub subtree-children-requires : goal.subtree-children-requires
subtree-children-requires g t c κs within =
    let next = c.behind_own.ensures ∙ behind-own _ _ c.requires.reached c.requires.there _ c.node_at-node.ensures in
    (omega (arith, ap (λ (x : Spot). x.nodes_left) next), (within, rw next (next-reached _ _ c.requires.reached c.requires.there)))

pub subtree-returns : goal.subtree-returns
subtree-returns g t c =
    let next = c.behind_own.ensures ∙ behind-own _ _ c.requires.reached c.requires.there _ c.node_at-node.ensures in
    tree-settled (λ m q. g.Q.Asked.meets q m) _ c.requires.reached c.requires.there c.node_at-node.ensures c.atoms_at-atoms.ensures
    c.in_ok-own.ensures refl (rw next at c.in_ok-below.ensures) c.join_at-made.ensures
