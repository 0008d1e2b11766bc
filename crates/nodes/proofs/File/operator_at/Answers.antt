-- The body is the definition, with the callees' results rewritten.
use Rattle.std.proofs.Common.{ap, ◌∙◌}
use Rattle.action.specs.Operator.{cells_of}
use Rattle.nodes.specs.Nodes.{cells_at}
use Rattle.nodes.proofs.File.operator_at.Goals as goal

pub returns : goal.returns
unfolding cells_at
returns c = c.from_words.ensures ∙ ap cells_of c.from_operator.ensures
