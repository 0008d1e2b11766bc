use Rattle.std.proofs.Common.{◌≡◌}
use Rattle.tokens.specs.Left.{left}
use Rattle.notation.specs.Nodes.{closed}
use Rattle.notation.proofs.nodes.close.Given as goal

-- those that are still open, and the words that are left, give what all give
abbrev pub invariant-loop-unclosed : goal.invariant-loop-unclosed
invariant-loop-unclosed l = closed l.unclosed (left l.tokens) ≡ closed l.fn.unclosed (left l.fn.tokens)

abbrev pub decreases-loop-unclosed : goal.decreases-loop-unclosed
decreases-loop-unclosed l = l.unclosed
