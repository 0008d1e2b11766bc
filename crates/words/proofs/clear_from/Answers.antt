-- All from the place on is zeros, and behind the end there is nothing to clear.
use Rattle.std.proofs.Common.{sym}
use Rattle.words.proofs.Laid.{put-cleared, cleared-none}
use Rattle.words.proofs.clear_from.Goals as goal

pub returns-then-at-out : goal.returns-then-at-out
returns-then-at-out c = put-cleared _ _ _ c.if-at-out.true (c.fill.ensures.after (λ y e. cc))

pub returns-else-at-out : goal.returns-else-at-out
returns-else-at-out c = sym (cleared-none _ _ c.if-at-out.false)
