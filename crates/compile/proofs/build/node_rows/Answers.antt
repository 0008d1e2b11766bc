-- The rows of the node's own atoms, and the place behind them.
use Rattle.std.proofs.Common.{◌∙◌, arith}
use Rattle.nodes.proofs.Places.{behind-own}
use Rattle.compile.proofs.Building.{node-full, node_done}
use Rattle.compile.proofs.build.node_rows.Goals as goal

pub own_rows-requires : goal.own_rows-requires
own_rows-requires c = (omega (arith, c.requires.3), c.requires.4)

pub returns-in_err-end : goal.returns-in_err-end
returns-in_err-end c =
    rw c.from_residual.ensures
    (node-full _ _ _ c.requires.2 c.operator_at.ensures c.atoms_at.ensures c.own_rows.ensures c.in_err-end.was)

pub returns : goal.returns
returns c =
    node_done _ _ _ c.requires.2 c.operator_at.ensures c.atoms_at.ensures c.own_rows.ensures c.in_ok-end.was
    (c.behind_own-next.ensures ∙ behind-own _ _ c.requires.0 c.requires.1 _ c.requires.2)
