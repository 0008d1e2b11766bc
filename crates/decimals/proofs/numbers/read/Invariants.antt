use Rattle.std.proofs.Common.{◌≡◌, length}
use Rattle.tokens.specs.Tokens.{tokens_of}
use Rattle.tokens.specs.Left.{left}
use Rattle.decimals.specs.Read.{numbers_of}
use Rattle.decimals.proofs.Steps.{after}
use Rattle.decimals.proofs.numbers.read.Given as goal

-- what is read behind the numbers so far is what is read behind none
abbrev pub invariant-loop-tokens : goal.invariant-loop-tokens
invariant-loop-tokens l = after l.numbers.items (numbers_of (left l.tokens)) ≡ numbers_of (tokens_of l.fn.text)

-- fewer words are left
abbrev pub decreases-loop-tokens : goal.decreases-loop-tokens
decreases-loop-tokens l = length (left l.tokens)
