-- Only the operator's cells are read.
use Rattle.std.proofs.Common.{ap, sym, ◌∙◌}
use Rattle.action.specs.Operator.{join}
use Rattle.action.proofs.Joined.{join-cells}
use Rattle.nodes.specs.Nodes.{cells_at}
use Rattle.nodes.proofs.File.join_at.Goals as goal

pub returns : goal.returns
unfolding cells_at
returns c =
    c.join_by.ensures ∙ ap (λ o. join o c.args.left c.args.right) c.from_operator.ensures ∙ sym (join-cells _ c.args.left c.args.right)
