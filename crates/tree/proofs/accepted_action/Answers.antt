-- The walk starts at the root, and gives eval of the tree.
use Rattle.std.proofs.Common.{sym, ◌∙◌}
use Rattle.std.proofs.lemmas.Result.{err_from_is_err_and}
use Rattle.flow.proofs.Words.{packet-found, packet-none}
use Rattle.nodes.proofs.Walk.{start-reached}
use Rattle.tree.proofs.Eval.{root-gave, accepted-gives, accepted-refuses}
use Rattle.tree.proofs.accepted_action.Goals as goal

pub subtree-requires : goal.subtree-requires
subtree-requires c =
    let start = start-reached _ _ c.requires _ c.root-at.ensures in record { reached = start.0; there = start.1 }

pub returns-in_err-try_from : goal.returns-in_err-try_from
returns-in_err-try_from c =
    let p = err_from_is_err_and c.from_residual.result c.from_residual.ensures.1 in
    rw (p.1, p.2) (accepted-refuses _ _ _ (packet-none _ _ (sym c.try_from.ensures ∙ c.in_err-try_from.was)))

pub returns : goal.returns
returns c =
    let k = packet-found _ _ (sym c.try_from.ensures ∙ c.in_ok-try_from.was) in
    accepted-gives _ _ _ k.0 (root-gave _ _ c.requires _ c.root-at.ensures _ (sym k.1) c.subtree.ensures)
