-- `subtree` and `children` call each other.
use Rattle.std.proofs.Common.{ap, arith}
use Rattle.nodes.specs.declared.Spot.{Spot}
use Rattle.nodes.proofs.Places.{here}
use Rattle.nodes.proofs.Walk.{none-taken, some-taken}
use Rattle.compile.proofs.Building.{tree-full, tree-rest, tree-done, children-none, children-full, children-rest, children-done, built-told}
use Rattle.compile.proofs.build.+children_subtree.Goals as goal

pub children-returns-then-count-at : goal.children-returns-then-count-at
children-returns-then-count-at t c =
    children-none _ (none-taken _ c.requires.0 c.if-count-at.true) (omega (arith, c.requires))

pub children-subtree-requires : goal.children-subtree-requires
children-subtree-requires t c =
    let some = some-taken c.args.count c.args.at.nodes_left c.if-count-at.false in
    (omega arith, (c.requires.0, some.1, c.requires.1, c.requires.2))

pub children-returns-in_err-first : goal.children-returns-in_err-first
children-returns-in_err-first t c =
    let some = some-taken c.args.count c.args.at.nodes_left c.if-count-at.false in
    rw c.from_residual.ensures (children-full _ _ c.subtree.ensures c.requires.0 some.0 some.1 _ c.in_err-first.was)

pub children-overflow_sub-count : goal.children-overflow_sub-count
children-overflow_sub-count t c = omega (arith, some-taken c.args.count c.args.at.nodes_left c.if-count-at.false)

pub children-children-requires : goal.children-children-requires
children-children-requires t c =
    let some = some-taken c.args.count c.args.at.nodes_left c.if-count-at.false in
    let told = built-told c.subtree.ensures c.in_ok-first.was in
    (omega (arith, told.2.less), (told.2.reached, omega (arith, told.1), omega (arith, c.requires.2)))

pub children-returns-in_err-rest : goal.children-returns-in_err-rest
children-returns-in_err-rest t c =
    let some = some-taken c.args.count c.args.at.nodes_left c.if-count-at.false in
    rw c.from_residual-in_err-rest.ensures
    (children-rest _ _ c.subtree.ensures c.requires.0 some.0 some.1 c.in_ok-first.was c.children.ensures _ c.in_err-rest.was)

pub children-join_built-requires : goal.children-join_built-requires
children-join_built-requires t c =
    let told = built-told c.subtree.ensures c.in_ok-first.was in
    let rest = built-told c.children.ensures c.in_ok-rest.was in
    (told.0, rest.0, omega (arith, rest.1, c.children.auto), omega (arith, c.requires.2, c.subtree.auto, c.children.auto))

pub children-returns : goal.children-returns
children-returns t c =
    let some = some-taken c.args.count c.args.at.nodes_left c.if-count-at.false in
    children-done _ _ c.subtree.ensures c.requires.0 some.0 some.1 c.in_ok-first.was c.children.ensures _ c.in_ok-rest.was c.join_built.ensures

pub subtree-node_rows-requires : goal.subtree-node_rows-requires
subtree-node_rows-requires t c = (c.requires.0, c.requires.1, c.node_at-node.ensures, c.requires.2, c.requires.3)

pub subtree-returns-in_err-own : goal.subtree-returns-in_err-own
subtree-returns-in_err-own t c =
    rw c.from_residual.ensures (tree-full _ c.node_rows.ensures c.in_err-own.was c.requires.0 c.requires.1)

pub subtree-children-requires : goal.subtree-children-requires
subtree-children-requires t c =
    let told = built-told c.node_rows.ensures c.in_ok-own.was in (
      omega (arith, c.requires.1, ap (λ (x : Spot). x.nodes_left) told.2),
      (rw told.2 (here _ _ c.requires.0 c.requires.1).next, omega (arith, told.1), omega (arith, c.requires.3)),
    )

pub subtree-returns-in_err-rest : goal.subtree-returns-in_err-rest
subtree-returns-in_err-rest t c =
    rw c.from_residual-in_err-rest.ensures
    (tree-rest c.node_rows.ensures c.in_ok-own.was c.children.ensures c.node_at-node.ensures c.requires.0 c.requires.1 _ c.in_err-rest.was)

pub subtree-join_built-requires : goal.subtree-join_built-requires
subtree-join_built-requires t c =
    let told = built-told c.node_rows.ensures c.in_ok-own.was in
    let rest = built-told c.children.ensures c.in_ok-rest.was in
    (told.0, rest.0, omega (arith, rest.1, c.children.auto), omega (arith, c.requires.3, c.node_rows.auto, c.children.auto))

pub subtree-returns : goal.subtree-returns
subtree-returns t c =
    tree-done c.node_rows.ensures c.in_ok-own.was c.children.ensures c.node_at-node.ensures c.requires.0 c.requires.1 _ c.in_ok-rest.was c.join_built.ensures
