-- The walk starts at the root, and gives the steps of the tree.
use Rattle.std.proofs.Common.{refl}
use Rattle.nodes.proofs.Walk.{start-reached}
use Rattle.trace.proofs.Nodes.{root-settled}
use Rattle.trace.proofs.walk.accepted_steps.Goals as goal

pub subtree-requires-clause-reached : goal.subtree-requires-clause-reached
subtree-requires-clause-reached g c = (start-reached _ _ c.requires _ c.root-at.ensures).0

pub subtree-requires-clause-there : goal.subtree-requires-clause-there
subtree-requires-clause-there g c = (start-reached _ _ c.requires _ c.root-at.ensures).1

pub returns : goal.returns
returns g c =
    root-settled (λ m q. g.Q.Asked.meets q m) _ _ _ c.requires _ c.root-at.ensures _ c.new.ensures.items c.new-2.ensures.items
    c.in_ok-push.ensures.items c.in_ok-step.ensures refl refl
