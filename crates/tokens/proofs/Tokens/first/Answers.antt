use Rattle.tokens.specs.Left.{left}
use Rattle.tokens.proofs.Words.{first-is}
use Rattle.tokens.proofs.Tokens.first.Goals as goal

pub returns : goal.returns
unfolding left
returns c =
    rw (c.split_at.ensures.front, c.split_at.ensures.back, c.front.ensures.value, c.behind_gap-found.ensures) (first-is c.args.end c.args.bytes.now)
